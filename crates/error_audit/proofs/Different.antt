-- Bricks that differ, with one more; and items of mapped lists.
use Rattle.std.proofs.Common.{◌≡◌, refl, sym, ap, subst, ◌∙◌, arith, get_or, inl, inr, drop}
use Rattle.std.specs.Prelude.{ℕ, zero, suc, ◌≢◌, ◌+◌, ◌-◌, ◌<◌, ◌≤◌, ◌==◌, ◌||◌, ◌⊎◌, Bool, true, false, List, [], ◌∷◌, ◌++◌, Option, None, Some, Contains, length, map, take, slice_get}
use Rattle.std.specs.List.{AllAdjacentBelow, AllByRecursion, IsDistinct, list_any}
use Rattle.std.specs.List.Sorted.{IsStrictlyIncreasing}
use Rattle.std.proofs.lemmas.Bool.{eq-eqb, or_parts}
use Rattle.std.proofs.lemmas.List.{append_assoc, get_or-map, length-map, map-append, take_all, take_more}
use Rattle.std.proofs.lemmas.List.Elements.{Contains-push_cases}
use Rattle.fop_types.specs.declared.jobs.SetPlan.{SetPlan}
use Rattle.mount_log.proofs.Items.{some_is}
use Rattle.mount_log.specs.Causes.{AreEnough}

pub all_push : {X : Type 0} (P : X → Type 0) (xs : List X) (x : X) → AllByRecursion P xs → P x → AllByRecursion P (xs ++ x ∷ [])
all_push P [] x all own = (own, record {})
all_push P (y ∷ xs) x all own = (all.0, all_push P xs x all.1 own)

-- what each of the first items has, and the next
pub all_next : {X : Type 0} (P : X → Type 0) (xs : List X) (i : ℕ) (d : X) → i < length xs → AllByRecursion P (take i xs) → P (get_or xs i d) → AllByRecursion P (take (i + 1) xs)
all_next P xs i d lt all own = subst (AllByRecursion P) (sym (take_more xs i d lt)) (all_push P (take i xs) (get_or xs i d) all own)

pub distinct_push : (xs : List ℕ) (x : ℕ) → list_any (λ y. y == x) xs ≡ false → IsDistinct ◌==◌ xs → IsDistinct ◌==◌ (xs ++ x ∷ [])
unfolding IsDistinct
distinct_push [] x none d = (record {}, record {})
distinct_push (y ∷ xs) x none d =
    let p = or_parts (y == x) (list_any (λ z. z == x) xs) none in (all_push (λ z. (y == z) ≡ false) xs x d.0 p.0, distinct_push xs x p.1 d.1)

pub distinct_none : IsDistinct ◌==◌ []
unfolding IsDistinct
distinct_none = record {}

-- an item of what is behind the first
pub behind : {X : Type 0} (y : X) (xs : List X) (x : X) → Contains xs x → Contains (y ∷ xs) x
behind y xs x (k, lt, is) = (suc k, omega (arith, lt), is)

-- the same by what a test of a slice says
pub distinct_more : (old new found : List ℕ) (x : ℕ) (has : Bool) → found ≡ old → has ≡ list_any (λ y. y == x) found → has ≡ false → new ≡ old ++ x ∷ [] → IsDistinct ◌==◌ old → IsDistinct ◌==◌ new
distinct_more old new found x has same is none pushed d =
    subst (IsDistinct ◌==◌) (sym pushed) (distinct_push old x (ap (list_any (λ y. y == x)) (sym same) ∙ sym is ∙ none) d)

-- the numbers of pairs rise where each is below the next one
pub rising_of : {N : Type 0} (pairs : List (ℕ × N)) → AllAdjacentBelow (λ (one next : ℕ × N). one.0 < next.0) pairs (length pairs) → IsStrictlyIncreasing (map (λ (pair : ℕ × N). pair.0) pairs)
rising_of {N} [] each k lt = absurd (omega (arith, lt))
rising_of {N} (p ∷ ps) each k lt =
    let long : k + 1 < length (p ∷ ps) = subst (λ (n : ℕ). k + 1 < n) (length-map (p ∷ ps) (λ (pair : ℕ × N). pair.0)) lt in
    let here : get_or (map (λ (pair : ℕ × N). pair.0) (p ∷ ps)) k 0 ≡ (get_or (p ∷ ps) k p).0 = get_or-map (λ (pair : ℕ × N). pair.0) (p ∷ ps) k p 0 (omega (arith, long)) in
    let next : get_or (map (λ (pair : ℕ × N). pair.0) (p ∷ ps)) (k + 1) 0 ≡ (get_or (p ∷ ps) (k + 1) p).0 = get_or-map (λ (pair : ℕ × N). pair.0) (p ∷ ps) (k + 1) p 0 long in
    omega (arith, each k p long, here, next)

-- bricks that are enough
pub enough_of : (plan : SetPlan) (start bricks found named : List ℕ) → start ≡ [] → bricks ≡ start ++ named → (IsDistinct ◌==◌ start → IsDistinct ◌==◌ bricks) → found ≡ bricks → length plan.bricks - plan.q + 1 ≤ length found
    → AreEnough plan named
enough_of plan start bricks found named none is differ same enough =
    let all : bricks ≡ named = is ∙ ap (λ (l : List ℕ). l ++ named) none in
    (subst (IsDistinct ◌==◌) all (differ (subst (IsDistinct ◌==◌) (sym none) distinct_none)), subst (λ (l : List ℕ). length plan.bricks - plan.q + 1 ≤ length l) (same ∙ all) enough)

module _ {X : Type 0} (f : X → ℕ) where
  pub contains_read : (xs : List X) (i : ℕ) (d : X) → i < length xs → Contains (map f xs) (f (get_or xs i d))
  contains_read [] i d lt = absurd (omega (arith, lt))
  contains_read (y ∷ xs) zero d lt = (0, omega arith, refl)
  contains_read (y ∷ xs) (suc i) d lt = behind (f y) (map f xs) (f (get_or xs i d)) (contains_read xs i d (omega (arith, lt)))

  pub mapped_next : (xs : List X) (i : ℕ) (x : X) (start now next : List ℕ) → i < length xs → x ≡ get_or xs i x → now ≡ start ++ map f (take i xs) → next ≡ now ++ f x ∷ [] → next ≡ start ++ map f (take (i + 1) xs)
  mapped_next xs i x start now next lt is was pushed =
      pushed ∙ ap (λ (l : List ℕ). l ++ f x ∷ []) was ∙ append_assoc start (map f (take i xs)) (f x ∷ [])
      ∙ ap (λ (l : List ℕ). start ++ l) (sym (map-append f (take i xs) (x ∷ [])) ∙ ap (λ (y : X). map f (take i xs ++ y ∷ [])) is ∙ sym (ap (map f) (take_more xs i x lt)))

  pub contains_mapped : (xs : List X) (i : ℕ) (x : X) → i < length xs → x ≡ get_or xs i x → Contains (map f xs) (f x)
  contains_mapped [] i x lt is = absurd (omega (arith, lt))
  contains_mapped (y ∷ xs) zero x lt is = (0, omega arith, ap f (sym is))
  contains_mapped (y ∷ xs) (suc i) x lt is = behind (f y) (map f xs) (f x) (contains_mapped xs i x (omega (arith, lt)) is)

module _ {X : Type 0} where
  pub contains_at : (xs : List X) (i : ℕ) (x one : X) → i < length xs → one ≡ get_or xs i one → one ≡ x → Contains xs x
  contains_at [] i x one lt is same = absurd (omega (arith, lt))
  contains_at (y ∷ xs) zero x one lt is same = (0, omega arith, sym is ∙ same)
  contains_at (y ∷ xs) (suc i) x one lt is same = behind y xs x (contains_at xs i x one (omega (arith, lt)) is same)

  -- each item has what all have
  pub all_at : (P : X → Type 0) (xs : List X) (k : ℕ) (x : X) → AllByRecursion P xs → slice_get xs k ≡ Some x → P x
  all_at P [] k x all is = absurd cc
  all_at P (y ∷ xs) zero x all is = subst P (some_is y x is) all.0
  all_at P (y ∷ xs) (suc k) x all is = all_at P xs k x all.1 is

-- ---- searches

module _ {X : Type 0} (P : X → Type 0) where
  -- none of the items so far has it, nor has the next
  pub none_next : (xs : List X) (i : ℕ) (d : X) → i < length xs → ((x : X) → Contains (take i xs) x → P x → ⊥) → (P (get_or xs i d) → ⊥) → (x : X) → Contains (take (i + 1) xs) x → P x → ⊥
  none_next xs i d lt none not x among own = by (Contains-push_cases (take i xs) (get_or xs i d) x (subst (λ (l : List X). Contains l x) (take_more xs i d lt) among)) where
    by : Contains (take i xs) x ⊎ (get_or xs i d ≡ x) → ⊥
    by (inl there) = none x there own
    by (inr is) = not (subst P (sym is) own)

  pub none_all : (xs : List X) (i : ℕ) → length xs ≤ i → ((x : X) → Contains (take i xs) x → P x → ⊥) → (x : X) → Contains xs x → P x → ⊥
  none_all xs i le none x among own = none x (subst (λ (l : List X). Contains l x) (sym (take_all i xs le)) among) own

  -- an item that is read has what all have
  pub all_read : (xs : List X) (i : ℕ) (d : X) → i < length xs → AllByRecursion P xs → P (get_or xs i d)
  all_read [] i d lt all = absurd (omega (arith, lt))
  all_read (y ∷ xs) zero d lt all = all.0
  all_read (y ∷ xs) (suc i) d lt all = all_read xs i d (omega (arith, lt)) all.1

  pub all_taken : (xs : List X) (i : ℕ) → length xs ≤ i → AllByRecursion P (take i xs) → AllByRecursion P xs
  all_taken xs i le all = subst (AllByRecursion P) (take_all i xs le) all

-- ---- bricks that do not differ

all_mid : {X : Type 0} (P : X → Type 0) (xs ys : List X) (x : X) → AllByRecursion P (xs ++ x ∷ ys) → P x
all_mid P [] ys x all = all.0
all_mid P (z ∷ xs) ys x all = all_mid P xs ys x all.1

all_front : {X : Type 0} (P : X → Type 0) (xs ys : List X) → AllByRecursion P (xs ++ ys) → AllByRecursion P xs
all_front P [] ys all = record {}
all_front P (z ∷ xs) ys all = (all.0, all_front P xs ys all.1)

-- an item that is in a list twice
not_twice : (xs ys : List ℕ) (x : ℕ) → Contains xs x → IsDistinct ◌==◌ (xs ++ x ∷ ys) → ⊥
unfolding IsDistinct
not_twice [] ys x (k, lt, is) d = absurd (omega (arith, lt))
not_twice (y ∷ xs) ys x (zero, lt, is) d =
    let no : (y == x) ≡ false = all_mid (λ z. (y == z) ≡ false) xs ys x d.0 in let yes : (y == x) ≡ true = eq-eqb y x is in absurd cc
not_twice (y ∷ xs) ys x (suc k, lt, is) d = not_twice xs ys x (k, omega (arith, lt), is) d.1

pub distinct_front : (xs ys : List ℕ) → IsDistinct ◌==◌ (xs ++ ys) → IsDistinct ◌==◌ xs
unfolding IsDistinct
distinct_front [] ys d = record {}
distinct_front (y ∷ xs) ys d = (all_front (λ z. (y == z) ≡ false) xs ys d.0, distinct_front xs ys d.1)

module _ {X : Type 0} (f : X → ℕ) where
  split_at : (xs : List X) (i : ℕ) (d : X) → i < length xs → map f xs ≡ map f (take i xs) ++ f (get_or xs i d) ∷ map f (drop (suc i) xs)
  split_at [] i d lt = absurd (omega (arith, lt))
  split_at (y ∷ xs) zero d lt = refl
  split_at (y ∷ xs) (suc i) d lt = ap (λ (l : List ℕ). f y ∷ l) (split_at xs i d (omega (arith, lt)))

  -- the next item is one of those before it
  pub not_distinct : (xs : List X) (i : ℕ) (d : X) (start now : List ℕ) → i < length xs → now ≡ start ++ map f (take i xs) → Contains now (f (get_or xs i d)) → IsDistinct ◌==◌ (start ++ map f xs) → ⊥
  not_distinct xs i d start now lt was among different =
      let whole : start ++ map f xs ≡ (start ++ map f (take i xs)) ++ f (get_or xs i d) ∷ map f (drop (suc i) xs) =
      ap (λ (l : List ℕ). start ++ l) (split_at xs i d lt) ∙ sym (append_assoc start (map f (take i xs)) (f (get_or xs i d) ∷ map f (drop (suc i) xs))) in
      not_twice (start ++ map f (take i xs)) (map f (drop (suc i) xs)) (f (get_or xs i d)) (subst (λ (l : List ℕ). Contains l (f (get_or xs i d))) was among) (subst (IsDistinct ◌==◌) whole different)

-- a number that is not below the next
pub not_rising : {N : Type 0} (pairs : List (ℕ × N)) (k : ℕ) (one next : ℕ × N) → 1 ≤ k → k < length pairs → (get_or pairs k next).0 ≤ (get_or pairs (k - 1) one).0 → IsStrictlyIncreasing (map (λ (pair : ℕ × N). pair.0) pairs) → ⊥
not_rising {N} pairs k one next from lt le rise =
    let numbers : List ℕ = map (λ (pair : ℕ × N). pair.0) pairs in
    let step : k - 1 + 1 ≡ k = omega (arith, from) in
    let long : length numbers ≡ length pairs = length-map pairs (λ (pair : ℕ × N). pair.0) in
    let up : get_or numbers (k - 1) 0 < get_or numbers (k - 1 + 1) 0 = rise (k - 1) (omega (arith, from, lt, long)) in
    let here : get_or numbers (k - 1) 0 ≡ (get_or pairs (k - 1) one).0 = get_or-map (λ (pair : ℕ × N). pair.0) pairs (k - 1) one 0 (omega (arith, from, lt)) in
    let there : get_or numbers (k - 1 + 1) 0 ≡ (get_or pairs k next).0 = ap (λ (n : ℕ). get_or numbers n 0) step ∙ get_or-map (λ (pair : ℕ × N). pair.0) pairs k next 0 lt in
    absurd (omega (arith, up, here, there, le))
