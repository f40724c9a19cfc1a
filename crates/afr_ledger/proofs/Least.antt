-- The least change that touches one of some cells: cell by cell, and what is entered at one cell.
use Rattle.std.proofs.Common.{◌≡◌, ℕ, ◌<◌, ◌≤◌, Bool, true, false, ◌||◌, ◌==◌, cond, List, [], ◌∷◌, ◌++◌, Option, Some, None, refl, sym, ap, ◌∙◌, arith, subst, take, length, get_or, suc, ◌+◌}
use Rattle.std.proofs.Math.Seq.{take-suc}
use Rattle.std.specs.List.{list_any, AllByRecursion}
use Rattle.std.specs.declared.cmp.Ordering.{Ordering}
use Rattle.std.specs.declared.cmp.Ordering.TheVariants.{Less}
use Rattle.std.specs.Ordering.{is_eq, nat_cmp}
use Rattle.std.specs.Cmp.{nat_cmp_total}
use Rattle.std.specs.Map.{keys_of}
use Rattle.std.specs.List.Sorted.{IsStrictlySortedBy}
use Rattle.std.proofs.lemmas.Map.Keys.{sorted_head, sorted_tail}
use Rattle.std.proofs.lemmas.Cmp.{tied_itself}
use Rattle.std.proofs.lemmas.Bool.{le-leb, lt-leb}
use Rattle.afr_ledger.specs.declared.unsettled.Unsettled.{Unsettled}
use Rattle.afr_ledger.specs.Changes.{numbered, touches, touches_any, touching, lesser}
use Rattle.afr_ledger.specs.code.Places.{is_number, touched}

less_is : (a b : ℕ) → nat_cmp a b ≡ Less → a < b
less_is a b h = grind (arith, h)

later_is_apart : (a b : ℕ) → a < b → is_eq (nat_cmp b a) ≡ false
later_is_apart a b h = grind (arith, h)

itself : (n : ℕ) → (n == n) ≡ true
itself n = grind arith

eq_is : (a b : ℕ) → (a == b) ≡ true → a ≡ b
eq_is a b h = grind (arith, h)

any_push : {A : Type 0} (p : A → Bool) (xs : List A) (x : A) → list_any p (xs ++ x ∷ []) ≡ (list_any p xs || p x)
any_push p [] x = elim (p x) as (λ (b : Bool). (b || false) ≡ b) [ true ↦ refl | false ↦ refl ]
any_push p (y ∷ xs) x = elim (p y) as (λ (b : Bool). (b || list_any p (xs ++ x ∷ [])) ≡ ((b || list_any p xs) || p x)) [ true ↦ refl | false ↦ any_push p xs x ]

first_is : (n : ℕ) (o : Option ℕ) → ((m : ℕ) → o ≡ Some m → n < m) → lesser (Some n) o ≡ Some n
first_is n None h = refl
first_is n (Some m) h = ap (λ (b : Bool). Some (cond b n m)) (let l = h m refl in le-leb n m (omega arith))

second_is : (n : ℕ) (o : Option ℕ) → ((m : ℕ) → o ≡ Some m → n < m) → lesser o (Some n) ≡ Some n
second_is n None h = refl
second_is n (Some m) h = ap (λ (b : Bool). Some (cond b m n)) (lt-leb m n (h m refl))

joined : (p q : Bool) (n : ℕ) (a b r : Option ℕ) → ((m : ℕ) → a ≡ Some m → n < m) → ((m : ℕ) → b ≡ Some m → n < m) → r ≡ lesser a b → cond (p || q) (Some n) r ≡ lesser (cond p (Some n) a) (cond (q || false) (Some n) b)
joined true true n a b r low high is = ap (λ (b : Bool). Some (cond b n n)) (sym (le-leb n n (omega arith)))
joined true false n a b r low high is = sym (first_is n b high)
joined false true n a b r low high is = sym (second_is n a low)
joined false false n a b r low high is = is

is_the_number : (n : ℕ) (o : Option ℕ) → is_number n o ≡ true → o ≡ Some n
is_the_number n None h = absurd cc
is_the_number n (Some m) h = ap Some (eq_is m n h)

module _ {C : Type 0} (cmp : C → C → Ordering) (s : ℕ) where
  -- what is found is later than what all are later than
  later : (n m : ℕ) (cells : List C) (us : List (ℕ × Unsettled C)) → AllByRecursion (λ y. nat_cmp n y ≡ Less) (keys_of us) → touching cmp s cells us ≡ Some m → n < m
  later n m cells [] h is = absurd cc
  later n m cells (e ∷ us) h is = elim (touches_any cmp s cells e.1) as (λ (b : Bool). cond b (Some e.0) (touching cmp s cells us) ≡ Some m → n < m) [
    | true ↦ λ t. (let k : e.0 ≡ m = cc in subst (λ (j : ℕ). n < j) k (less_is n e.0 h.0))
    | false ↦ λ t. later n m cells us h.1 t
  ] is

  pub one_cell_more : (xs : List C) (x : C) (us : List (ℕ × Unsettled C)) → IsStrictlySortedBy nat_cmp (keys_of us) → touching cmp s (xs ++ x ∷ []) us ≡ lesser (touching cmp s xs us) (touching cmp s (x ∷ []) us)
  one_cell_more xs x [] h = refl
  one_cell_more xs x (e ∷ us) h =
      let head = sorted_head nat_cmp e.0 (keys_of us) h in
      ap (λ (b : Bool). cond b (Some e.0) (touching cmp s (xs ++ x ∷ []) us)) (any_push (λ (c : C). touches cmp s c e.1) xs x)
      ∙ joined (touches_any cmp s xs e.1) (touches cmp s x e.1) e.0 (touching cmp s xs us) (touching cmp s (x ∷ []) us) _
      (λ m. later e.0 m xs us head) (λ m. later e.0 m (x ∷ []) us head) (one_cell_more xs x us (sorted_tail nat_cmp e.0 (keys_of us) h))

  up : (i : ℕ) → i + 1 ≡ suc i
  up i = omega arith

  -- the cells up to a place, and the one there
  pub next_cell : (cells : List C) (i : ℕ) (x : C) (us : List (ℕ × Unsettled C)) (a b : Option ℕ) → x ≡ get_or cells i x → i < length cells → IsStrictlySortedBy nat_cmp (keys_of us) → a ≡ touching cmp s (take i cells) us → b ≡ touching cmp s (x ∷ []) us → lesser a b ≡ touching cmp s (take (i + 1) cells) us
  next_cell cells i x us a b at fits h is one =
      ap (λ (o : Option ℕ). lesser o b) is
      ∙ ap (λ (o : Option ℕ). lesser (touching cmp s (take i cells) us) o) one
      ∙ sym (one_cell_more (take i cells) x us h)
      ∙ ap (λ (l : List C). touching cmp s l us) (sym (ap (λ (n : ℕ). take n cells) (up i) ∙ take-suc cells i x fits ∙ ap (λ (y : C). take i cells ++ y ∷ []) (sym at)))

  pub no_cell : (us : List (ℕ × Unsettled C)) → touching cmp s [] us ≡ None
  no_cell [] = refl
  no_cell (e ∷ us) = no_cell us

  -- where no change touches a cell, none of any number does
  none_touches : (cell : C) (us : List (ℕ × Unsettled C)) (n : ℕ) → touching cmp s (cell ∷ []) us ≡ None → touched cmp s cell (numbered n us) ≡ false
  none_touches cell [] n is = refl
  none_touches cell (e ∷ us) n is = elim (touches cmp s cell e.1) as (λ (b : Bool). touches cmp s cell e.1 ≡ b → cond (b || false) (Some e.0) (touching cmp s (cell ∷ []) us) ≡ None → touched cmp s cell (numbered n (e ∷ us)) ≡ false) [
    | true ↦ λ t k. absurd cc
    | false ↦ λ t k. elim (is_eq (nat_cmp n e.0)) as (λ (b : Bool). touched cmp s cell (cond b (Some e.1) (numbered n us)) ≡ false) [ true ↦ t | false ↦ none_touches cell us n k ]
  ] refl is

  -- the least change that touches a cell does so
  least_touches : (cell : C) (us : List (ℕ × Unsettled C)) (m : ℕ) → IsStrictlySortedBy nat_cmp (keys_of us) → touching cmp s (cell ∷ []) us ≡ Some m → touched cmp s cell (numbered m us) ≡ true
  least_touches cell [] m h is = absurd cc
  least_touches cell (e ∷ us) m h is = elim (touches cmp s cell e.1) as (λ (b : Bool). touches cmp s cell e.1 ≡ b → cond (b || false) (Some e.0) (touching cmp s (cell ∷ []) us) ≡ Some m → touched cmp s cell (numbered m (e ∷ us)) ≡ true) [
    | true ↦ λ t k.
        let j : e.0 ≡ m = cc in
        let here : is_eq (nat_cmp m e.0) ≡ true = subst (λ (i : ℕ). is_eq (nat_cmp i e.0) ≡ true) j (ap is_eq (tied_itself nat_cmp_total e.0)) in
        ap (λ (b : Bool). touched cmp s cell (cond b (Some e.1) (numbered m us))) here ∙ t
    | false ↦ λ t k.
        let low = later e.0 m (cell ∷ []) us (sorted_head nat_cmp e.0 (keys_of us) h) k in
        ap (λ (b : Bool). touched cmp s cell (cond b (Some e.1) (numbered m us))) (later_is_apart e.0 m low) ∙ least_touches cell us m (sorted_tail nat_cmp e.0 (keys_of us) h) k
  ] refl is

  found : (cell : C) (us : List (ℕ × Unsettled C)) (o t : Option ℕ) → IsStrictlySortedBy nat_cmp (keys_of us) → ((n : ℕ) → is_number n o ≡ touched cmp s cell (numbered n us)) → touching cmp s (cell ∷ []) us ≡ t → o ≡ t
  found cell us None None h e is = refl
  found cell us (Some k) None h e is = absurd (let t : true ≡ false = sym (itself k) ∙ e k ∙ none_touches cell us k is in cc)
  found cell us o (Some m) h e is = is_the_number m o (e m ∙ least_touches cell us m h is)

  -- what is entered at a cell is the least change that touches it
  pub owner_is : (cell : C) (us : List (ℕ × Unsettled C)) (o : Option ℕ) → IsStrictlySortedBy nat_cmp (keys_of us) → ((n : ℕ) → is_number n o ≡ touched cmp s cell (numbered n us)) → o ≡ touching cmp s (cell ∷ []) us
  owner_is cell us o h e = found cell us o (touching cmp s (cell ∷ []) us) h e refl
