-- What a cache holds, by the uses of its pages. A page is used when it is put, and when a read is
-- answered from it. While no file is dropped, the held pages are the last ones used, as many as may be.
use Rattle.std.specs.Prelude.{◌≡◌, ℕ, Bool, true, not, List, [], ◌∷◌, ◌++◌, take, is_some, map}
use Rattle.std.specs.List.{filter}
use Rattle.lru.specs.LruCache.{promoted}
use Rattle.fop_types.specs.declared.cells.Gfid.{Gfid}
use Rattle.io_cache.specs.declared.page_key.PageKey.{PageKey}
use Rattle.io_cache.specs.Pages.{Held, is_of, is_page, key, page_at, put_page, without_file, no_pages}

pub data Use : Type 0 where
  Put : (gfid : Gfid) → (page : ℕ) → (bytes : List ℕ) → Use
  Hit : (gfid : Gfid) → (page : ℕ) → Use

abbrev pub page_of : Use → PageKey
page_of (Put g n bytes) = key g n
page_of (Hit g n) = key g n

-- the pages, but this one
abbrev pub others : PageKey → List PageKey → List PageKey
others k ks = filter (λ j. not (is_page k.gfid k.page j)) ks

-- all pages by their last use, the last one first: those that were used before, and then these uses
abbrev pub by_last_use : List Use → List PageKey → List PageKey
by_last_use [] ks = ks
by_last_use (u ∷ us) ks = by_last_use us (page_of u ∷ others (page_of u) ks)

-- the cache after one use, and after several
abbrev pub after_use : Use → Held → Held
after_use (Put g n bytes) c = put_page g n bytes c
after_use (Hit g n) c = record c { pages = promoted (is_page g n) c.pages }

abbrev pub after_uses : List Use → Held → Held
after_uses [] c = c
after_uses (u ∷ us) c = after_uses us (after_use u c)

-- a page that is hit is held
abbrev pub IsUse : Use → Held → Type 0
IsUse (Put g n bytes) c = Unit {0}
IsUse (Hit g n) c = is_some (page_at c.pages g n) ≡ true

abbrev pub AreUses : List Use → Held → Type 0
AreUses [] c = Unit {0}
AreUses (u ∷ us) c = IsUse u c × AreUses us (after_use u c)

abbrev pub pages_of : Held → List PageKey
pages_of c = map (λ p. p.0) c.pages

-- the held pages are the last ones used
abbrev pub HoldsLastUsed : Held → Type 0
HoldsLastUsed c = (us : List Use) → AreUses us c → pages_of (after_uses us c) ≡ take c.capacity (by_last_use us (pages_of c))

-- what happens to a cache: a page is used, a file is dropped, or all pages are
pub data Event : Type 0 where
  Used : (by : Use) → Event
  Dropped : (gfid : Gfid) → Event
  Cleared : Event

-- all pages by their last use since they were dropped, the last one first
abbrev pub order_after : List Event → List PageKey → List PageKey
order_after [] ks = ks
order_after (Used u ∷ es) ks = order_after es (page_of u ∷ others (page_of u) ks)
order_after (Dropped g ∷ es) ks = order_after es (filter (λ k. not (is_of g k)) ks)
order_after (Cleared ∷ es) ks = order_after es []

abbrev pub after_event : Event → Held → Held
after_event (Used u) c = after_use u c
after_event (Dropped g) c = without_file g c
after_event Cleared c = no_pages c.capacity

abbrev pub after_events : List Event → Held → Held
after_events [] c = c
after_events (e ∷ es) c = after_events es (after_event e c)

abbrev pub IsEvent : Event → Held → Type 0
IsEvent (Used u) c = IsUse u c
IsEvent (Dropped g) c = Unit {0}
IsEvent Cleared c = Unit {0}

abbrev pub AreEvents : List Event → Held → Type 0
AreEvents [] c = Unit {0}
AreEvents (e ∷ es) c = IsEvent e c × AreEvents es (after_event e c)

-- `all` begins with `held`
pub record IsPrefix (held all : List PageKey) : Type 0 where
  pub rest : List PageKey
  pub whole : all ≡ held ++ rest

-- the held pages are the first in the order of last use: no other page was used after one that is held
-- and has not been dropped since
abbrev pub HoldsMostRecent : Held → Type 0
HoldsMostRecent c = (es : List Event) → AreEvents es c → IsPrefix (pages_of (after_events es c)) (order_after es (pages_of c))
