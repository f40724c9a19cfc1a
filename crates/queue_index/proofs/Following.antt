-- The numbers of the entries that come next, as they are put into a set one after the other.
use Rattle.std.proofs.Common.{◌≡◌, ℕ, ◌+◌, Bool, true, false, ◌||◌, cond, List, [], ◌∷◌, Option, Some, None, refl, sym, ap, ◌∙◌}
use Rattle.std.specs.List.{list_any, filter, AllByRecursion}
use Rattle.queue_index.specs.declared.key.Key.{Key}
use Rattle.queue_index.specs.Queue.{item_at, numbers, touches, touching, touching_from, passes, is_at_number}
use Rattle.queue_index.specs.Next.{is_next_on, is_next_to, is_next, follows_item, follows_at}
use Rattle.queue_index.proofs.Entries.{founds}
use Rattle.queue_index.proofs.Touching.{numbers_start}
use Rattle.queue_index.proofs.Lists.{none}
use Rattle.queue_index.proofs.Numbers.{Rise}

module _ {T : Type 0} (keys : T → List Key) where
  -- ---- on the things of an item
  on_keys : (p : Key → ℕ → T → Bool) (ks : List Key) (q : ℕ) (o : Option T) → list_any (λ k. passes (p k) q o) ks ≡ passes (λ n y. list_any (λ k. p k n y) ks) q o
  on_keys p ks q None = none ks
  on_keys p ks q (Some y) = refl

  pub things_start : (x : T) (q from : ℕ) (f : Bool) (es : List (ℕ × T)) → (f || list_any (λ k. is_at_number (is_next_on keys es from k) es q) (keys x)) ≡ (f || is_at_number (is_next_to keys es from x) es q)
  things_start x q from f es = ap (λ (b : Bool). f || b) (on_keys (λ k n y. is_next_on keys es from k n y) (keys x) q (item_at q es))

  -- ---- after those that have a key
  follows_all : (q : ℕ) (p : ℕ × T → Bool) (es fs : List (ℕ × T)) → AllByRecursion (λ e. item_at e.0 es ≡ Some e.1) fs → list_any (follows_at keys es q) (numbers (filter p fs)) ≡ list_any (λ e. passes (is_next_to keys es (e.0 + 1) e.1) q (item_at q es)) (filter p fs)
  follows_all q p es [] h = refl
  follows_all q p es (e ∷ fs) h = elim (p e) as (λ (b : Bool). list_any (follows_at keys es q) (numbers (cond b (e ∷ filter p fs) (filter p fs))) ≡ list_any (λ e. passes (is_next_to keys es (e.0 + 1) e.1) q (item_at q es)) (cond b (e ∷ filter p fs) (filter p fs))) [
    | true ↦ ap (λ (o : Option T). follows_item keys es q e.0 o || list_any (follows_at keys es q) (numbers (filter p fs))) h.0 ∙ ap (λ (b : Bool). passes (is_next_to keys es (e.0 + 1) e.1) q (item_at q es) || b) (follows_all q p es fs h.1)
    | false ↦ follows_all q p es fs h.1
  ]

  through : (p : ℕ × T → ℕ → T → Bool) (q : ℕ) (es : List (ℕ × T)) (o : Option T) → list_any (λ e. passes (p e) q o) es ≡ passes (λ n y. list_any (λ e. p e n y) es) q o
  through p q es None = none es
  through p q es (Some y) = refl

  pub next_start : (k : Key) (q : ℕ) (es : List (ℕ × T)) → Rise es → list_any (follows_at keys es q) (numbers (touching_from keys k 0 es)) ≡ is_at_number (is_next keys k es) es q
  next_start k q es s = ap (list_any (follows_at keys es q)) (numbers_start keys k es) ∙ follows_all q (λ e. touches keys k e.1) es es (founds es s) ∙ through (λ e n y. is_next_to keys es (e.0 + 1) e.1 n y) q (touching keys k es) (item_at q es)
