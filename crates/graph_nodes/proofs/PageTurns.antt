-- Where pages begin, and the pages that are kept one after the other.
use Rattle.std.proofs.Common.{◌≡◌, ◌∙◌, ℕ, suc, ◌+◌, ◌-◌, ◌*◌, ◌<◌, ◌≤◌, Bool, true, false, nat_le, nat_lt, List, [], ◌∷◌, length, Option, Some, None, refl, ap, subst, arith, if◌then◌else◌}
use Rattle.std.proofs.lemmas.Bool.{leb-true, leb-false}
use Rattle.std.specs.List.{range_with_len}
use Rattle.io_cache.specs.Pages.{Held}
use Rattle.xlator_law.specs.declared.step.Step.{Step}
use Rattle.graph_items.specs.declared.items.Down.{Down}
use Rattle.graph_items.specs.declared.items.Up.{Up}
use Rattle.graph_nodes.specs.declared.kinds.IoCache.{IoCache}
use Rattle.graph_nodes.specs.declared.locals.Local.{Local}
use Rattle.graph_nodes.specs.declared.locals.Local.TheVariants as local
use Rattle.graph_nodes.specs.declared.locals.PageRange.{PageRange}
use Rattle.graph_nodes.specs.IoCache.{PagesCome, IsAnswered, range_in, bytes_in, put_of, kept}
use Rattle.graph_nodes.specs.Moves.{IsMove}
use Rattle.graph_nodes.specs.Moves.Move.{Back}
use Rattle.graph_nodes.specs.Pages.{start_of, page_bytes}

-- a number with a bound, and what the test of the bound said
bounded : (b n m : ℕ) (s t : Bool) → nat_le n b ≡ s → nat_le m b ≡ t → n ≤ m → (if s then n else b) ≤ (if t then m else b)
bounded b n m true true e f h = h
bounded b n m true false e f h = leb-true n b e
bounded b n m false true e f h = let over = leb-false n b e in let under = leb-true m b f in omega (arith, over, under, h)
bounded b n m false false e f h = omega arith

near : (b n m k : ℕ) (s t : Bool) → nat_le n b ≡ s → nat_le m b ≡ t → m ≤ n + k → (if t then m else b) ≤ (if s then n else b) + k
near b n m k true true e f h = h
near b n m k true false e f h = let over = leb-false m b f in omega (arith, over, h)
near b n m k false true e f h = let under = leb-true m b f in omega (arith, under)
near b n m k false false e f h = omega arith

below : (b n : ℕ) (s : Bool) → nat_le n b ≡ s → (if s then n else b) ≤ n
below b n true e = omega arith
below b n false e = let over = leb-false n b e in omega (arith, over)

pub starts_rise : (a b : ℕ) → a ≤ b → start_of a ≤ start_of b
unfolding start_of
starts_rise a b h = bounded 65536 (a * 4096) (b * 4096) (nat_le (a * 4096) 65536) (nat_le (b * 4096) 65536) refl refl (omega (arith, h))

pub starts_near : (a b : ℕ) → b ≤ a + 1 → start_of b ≤ start_of a + 4096
unfolding start_of
starts_near a b h = near 65536 (a * 4096) (b * 4096) 4096 (nat_le (a * 4096) 65536) (nat_le (b * 4096) 65536) refl refl (omega (arith, h))

-- a page begins at its offset at most
pub starts_before : (page offset : ℕ) → page * 4096 ≤ offset → start_of page ≤ offset
unfolding start_of
starts_before page offset h = let low = below 65536 (page * 4096) (nat_le (page * 4096) 65536) refl in omega (arith, low, h)

-- the numbers from one on are that one and those after it
first_of : (a b : ℕ) → a < b → range_with_len a (b - a) ≡ a ∷ range_with_len (a + 1) (b - (a + 1))
first_of a b h = let e : b - a ≡ suc (b - (a + 1)) = omega (arith, h) in ap (range_with_len a) e

none_of : (a b : ℕ) → b ≤ a → range_with_len a (b - a) ≡ []
none_of a b h = let e : b - a ≡ 0 = omega (arith, h) in ap (range_with_len a) e

module _ (r : PageRange) (bytes : List ℕ) (page : ℕ) (held : Held) where
  -- a page that is not short is kept, and the others are to be kept still
  pub kept_next : page < r.end → nat_lt (length (page_bytes r bytes page)) 4096 ≡ false
      → kept r bytes (range_with_len page (r.end - page)) held ≡ kept r bytes (range_with_len (page + 1) (r.end - (page + 1))) (put_of r bytes page held)
  kept_next h long = ap (λ (ns : List ℕ). kept r bytes ns held) (first_of page r.end h)
      ∙ ap (λ (short : Bool). if short then put_of r bytes page held else kept r bytes (range_with_len (page + 1) (r.end - (page + 1))) (put_of r bytes page held)) long

  -- a short one is the last
  pub kept_last : page < r.end → nat_lt (length (page_bytes r bytes page)) 4096 ≡ true
      → kept r bytes (range_with_len page (r.end - page)) held ≡ put_of r bytes page held
  kept_last h short = ap (λ (ns : List ℕ). kept r bytes ns held) (first_of page r.end h)
      ∙ ap (λ (short : Bool). if short then put_of r bytes page held else kept r bytes (range_with_len (page + 1) (r.end - (page + 1))) (put_of r bytes page held)) short

  pub kept_past : r.end ≤ page → kept r bytes (range_with_len page (r.end - page)) held ≡ held
  kept_past h = ap (λ (ns : List ℕ). kept r bytes ns held) (none_of page r.end h)

-- a frame that has asked for pages takes their reply, and any other one hands its reply back
pub answered_pages : (old new : IoCache) (l : Local) (r : PageRange) (reply : Up) (s : Step Down Up Local) → Some r ≡ range_in l → PagesCome (bytes_in reply) old r reply s new → IsAnswered old l reply s new
answered_pages old new (local.Pages q) r reply s is h = subst (λ (x : PageRange). PagesCome (bytes_in reply) old x reply s new) (same r q is) h where
  same : (a b : PageRange) → Some a ≡ Some b → a ≡ b
  same a b e = cc
answered_pages old new local.Relay r reply s is h = absurd cc
answered_pages old new (local.Queued d) r reply s is h = absurd cc
answered_pages old new (local.Distribute frame) r reply s is h = absurd cc
answered_pages old new (local.Set frame) r reply s is h = absurd cc

pub answered_other : (old new : IoCache) (l : Local) (reply : Up) (s : Step Down Up Local) → None ≡ range_in l → IsMove (Back reply) s × (new ≡ old) → IsAnswered old l reply s new
answered_other old new (local.Pages q) reply s is h = absurd cc
answered_other old new local.Relay reply s is h = h
answered_other old new (local.Queued d) reply s is h = h
answered_other old new (local.Distribute frame) reply s is h = h
answered_other old new (local.Set frame) reply s is h = h
