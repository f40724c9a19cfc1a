-- The pages that an io-cache holds, each with its file's number, its place in the file and its bytes,
-- the most recently used first; and how many there may be.
use Rattle.std.specs.Prelude.{ℕ, zero, suc, ◌+◌, ◌-◌, ◌/◌, ◌%◌, ◌<◌, Bool, false, cond, not, ◌&&◌, ◌||◌, ◌==◌, nat_lt, List, [], ◌∷◌, length, take, drop, Contains, Option, Some, None, is_some}
use Rattle.std.specs.Option.{option_map_or, unwrap_or}
use Rattle.std.specs.List.{filter, list_all, flat_map, range_with_len}
use Rattle.std.specs.Map.{lookup, remove_entry}
use Rattle.lru.specs.LruCache.{promoted}
use Rattle.fop_types.specs.declared.cells.Gfid.{Gfid}
use Rattle.io_cache.specs.declared.page_key.PageKey.{PageKey}

pub record Held : Type 0 where
  pub pages : List (PageKey × List ℕ)
  pub capacity : ℕ

abbrev pub held_pages : List (PageKey × List ℕ) → ℕ → Held
held_pages ps n = record { pages = ps; capacity = n }

abbrev pub no_pages : ℕ → Held
no_pages n = held_pages [] n

-- whether the file is g's
abbrev pub is_of : Gfid → PageKey → Bool
is_of g k = (g.hi == k.gfid.hi) && (g.lo == k.gfid.lo)

-- whether it is page n of g
abbrev pub is_page : Gfid → ℕ → PageKey → Bool
is_page g n k = is_of g k && (n == k.page)

abbrev pub key : Gfid → ℕ → PageKey
key g n = record { gfid = g; page = n }

-- the page goes first, an earlier one of its number goes, and so does the last of too many
abbrev pub put_page : Gfid → ℕ → List ℕ → Held → Held
put_page g n bytes c = record c { pages = take c.capacity ((key g n, bytes) ∷ remove_entry (is_page g n) c.pages) }

abbrev pub without_file : Gfid → Held → Held
without_file g c = record c { pages = filter (λ p. not (is_of g p.0)) c.pages }

-- each held page has a number below n
abbrev pub AreBelow : ℕ → List (PageKey × List ℕ) → Type 0
AreBelow n ps = (p : PageKey × List ℕ) → Contains ps p → p.0.page < n

-- without the pages of g with numbers below n
abbrev pub without_pages_below : Gfid → ℕ → List (PageKey × List ℕ) → List (PageKey × List ℕ)
without_pages_below g n ps = filter (λ p. not (is_of g p.0 && nat_lt p.0.page n)) ps

-- each page of the first list is one of the second
abbrev pub IsPartOf : List (PageKey × List ℕ) → List (PageKey × List ℕ) → Type 0
IsPartOf some all = (p : PageKey × List ℕ) → Contains some p → Contains all p

module _ (ps : List (PageKey × List ℕ)) (g : Gfid) where
  abbrev pub page_at : ℕ → Option (List ℕ)
  page_at n = lookup (is_page g n) ps

  abbrev pub bytes_at : ℕ → List ℕ
  bytes_at n = unwrap_or (page_at n) []

  -- a held page of fewer than 4,096 bytes ends the file
  abbrev pub is_short : ℕ → Bool
  is_short n = option_map_or (λ bytes. nat_lt (length bytes) 4096) (page_at n) false

  -- whether a held page with a number below n ends the file
  abbrev pub ends_before : ℕ → Bool
  ends_before zero = false
  ends_before (suc n) = ends_before n || is_short n

  -- of these pages, those that no held page before them ends
  abbrev pub needed_of : List ℕ → List ℕ
  needed_of ns = filter (λ n. not (ends_before n)) ns

  -- whether each of these pages is held
  abbrev pub all_at : List ℕ → Bool
  all_at ns = list_all (λ n. is_some (page_at n)) ns

-- the pages of the bytes from offset on, of which there are len
abbrev pub pages_of_range : ℕ → ℕ → List ℕ
pages_of_range offset len = cond (len == 0) [] (range_with_len (offset / 4096) ((offset + len + 4095) / 4096 - offset / 4096))

abbrev pub needed : Held → Gfid → ℕ → ℕ → List ℕ
needed c g offset len = needed_of c.pages g (pages_of_range offset len)

-- the bytes of a read, where each page that it needs is held
abbrev pub answer : Held → Gfid → ℕ → ℕ → Option (List ℕ)
answer c g offset len = cond (all_at c.pages g (needed c g offset len)) (Some (take len (drop (offset % 4096) (flat_map (bytes_at c.pages g) (needed c g offset len))))) None

-- the pages of g with these numbers become the most recently used, one after the other
abbrev pub used : Gfid → List ℕ → List (PageKey × List ℕ) → List (PageKey × List ℕ)
used g [] ps = ps
used g (n ∷ ns) ps = used g ns (promoted (is_page g n) ps)

-- a read that is answered uses the pages that it needs, by rising number; one that misses uses none
abbrev pub after_read : Held → Gfid → ℕ → ℕ → Held
after_read c g offset len = cond (all_at c.pages g (needed c g offset len)) (record c { pages = used g (needed c g offset len) c.pages }) c
