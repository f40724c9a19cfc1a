-- The owners that are picked among the requests that stay, by the numbers of requests of which some left.
use Rattle.std.proofs.Common.{◌≡◌, ℕ, ◌<◌, Bool, true, false, not, ◌&&◌, cond, List, [], ◌∷◌, Option, Some, None, refl, sym, ap, ◌∙◌, arith}
use Rattle.std.specs.List.{filter, AllByRecursion}
use Rattle.std.specs.Ordering.{nat_cmp, is_eq}
use Rattle.std.specs.Map.{keys_of as keys_in}
use Rattle.std.specs.List.Sorted.{IsStrictlySortedBy}
use Rattle.queue_index.specs.Queue.{item_at, items, numbers}
use Rattle.queue_index.proofs.Lists.{all_filter}
use Rattle.queue_index.proofs.Numbers.{head_first, tail_rises}
use Rattle.brick_locks.specs.declared.owner.Owner.{Owner}
use Rattle.brick_locks.specs.declared.request.Request.{Request}
use Rattle.brick_locks.specs.Locks.{owners}
use Rattle.brick_locks.specs.Walks.{owner_if, with_owner, picked}

at_itself : (n : ℕ) → is_eq (nat_cmp n n) ≡ true
at_itself n = grind (arith)

at_lower : (q n : ℕ) → q < n → is_eq (nat_cmp q n) ≡ false
at_lower q n h = grind (arith, h)

at_higher : (q n : ℕ) → n < q → is_eq (nat_cmp q n) ≡ false
at_higher q n h = grind (arith, h)

none_above : (q : ℕ) (es : List (ℕ × Request)) → AllByRecursion (λ e. q < e.0) es → item_at q es ≡ None
none_above q [] h = refl
none_above q (e ∷ es) h = ap (λ (b : Bool). cond b (Some e.1) (item_at q es)) (at_lower q e.0 h.0) ∙ none_above q es h.1

-- an entry is found among those that stay exactly where it stays
abbrev IsThere : (ℕ × Request → Bool) → List (ℕ × Request) → List (ℕ × Request) → Type 0
IsThere st left es = AllByRecursion (λ e. item_at e.0 left ≡ cond (st e) (Some e.1) None) es

there_on : (st : ℕ × Request → Bool) (e : ℕ × Request) (left es : List (ℕ × Request)) → AllByRecursion (λ d. e.0 < d.0) es → IsThere st left es → (b : Bool) → IsThere st (cond b (e ∷ left) left) es
there_on st e left [] low h b = tt
there_on st e left (d ∷ es) low h true = (ap (λ (b : Bool). cond b (Some e.1) (item_at d.0 left)) (at_higher d.0 e.0 low.0) ∙ h.0, there_on st e left es low.1 h.1 true)
there_on st e left (d ∷ es) low h false = h

pub items_there : (st : ℕ × Request → Bool) (es : List (ℕ × Request)) → IsStrictlySortedBy nat_cmp (keys_in es) → IsThere st (filter st es) es
items_there st [] s = tt
items_there st (e ∷ es) s =
    let low = head_first e es s in
    (here (st e), there_on st e (filter st es) es low (items_there st es (tail_rises e es s)) (st e))
  where
    here : (b : Bool) → item_at e.0 (cond b (e ∷ filter st es) (filter st es)) ≡ cond b (Some e.1) None
    here true = ap (λ (b : Bool). cond b (Some e.1) (item_at e.0 (filter st es))) (at_itself e.0)
    here false = none_above e.0 (filter st es) (all_filter (λ (d : ℕ × Request). e.0 < d.0) st es (head_first e es s))

one_picked : (p : ℕ → Request → Bool) (e : ℕ × Request) (os : List Owner) (l : List (ℕ × Request)) → os ≡ owners (items l) → (b : Bool) → with_owner (owner_if p e.0 (cond b (Some e.1) None)) os ≡ owners (items (cond (b && p e.0 e.1) (e ∷ l) l))
one_picked p e os l is false = is
one_picked p e os l is true = elim (p e.0 e.1) as (λ (c : Bool). with_owner (cond c (Some e.1.owner) None) os ≡ owners (items (cond c (e ∷ l) l))) [ true ↦ ap (λ (r : List Owner). e.1.owner ∷ r) is | false ↦ is ]

pub picked_left : (p : ℕ → Request → Bool) (w st : ℕ × Request → Bool) (left es : List (ℕ × Request)) → IsThere st left es → picked p left (numbers (filter w es)) ≡ owners (items (filter (λ e. (w e && st e) && p e.0 e.1) es))
picked_left p w st left [] h = refl
picked_left p w st left (e ∷ es) h = elim (w e) as (λ (b : Bool). picked p left (numbers (cond b (e ∷ filter w es) (filter w es))) ≡ owners (items (cond ((b && st e) && p e.0 e.1) (e ∷ filter (λ e. (w e && st e) && p e.0 e.1) es) (filter (λ e. (w e && st e) && p e.0 e.1) es)))) [
  | true ↦ ap (λ (o : Option Request). with_owner (owner_if p e.0 o) (picked p left (numbers (filter w es)))) h.0 ∙ one_picked p e (picked p left (numbers (filter w es))) (filter (λ e. (w e && st e) && p e.0 e.1) es) (picked_left p w st left es h.1) (st e)
  | false ↦ picked_left p w st left es h.1
]
