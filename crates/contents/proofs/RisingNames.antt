-- Things whose names rise: where a name is among them, what is put in and taken out there, and that they rise
-- then too. `name` gives a thing's name.
use Rattle.std.proofs.Common.{◌≡◌, ℕ, zero, suc, ◌<◌, ◌≤◌, Bool, true, false, List, [], ◌∷◌, ◌++◌, Option, Some, None, IfSome, refl, sym, ap, ◌∙◌, arith, subst, map, length, take, drop, slice_get, if◌then◌else◌}
use Rattle.std.specs.Prelude.{nat_eq}
use Rattle.std.specs.List.{AllByRecursion}
use Rattle.std.specs.List.Sorted.{IsStrictlySortedBy}
use Rattle.std.specs.declared.cmp.Ordering.{Ordering}
use Rattle.std.specs.declared.cmp.Ordering.TheVariants.{Less, Equal, Greater}
use Rattle.std.specs.Ordering.{nat_cmp, match_ordering, ordering_reverse, is_eq, is_lt}
use Rattle.std.specs.Cmp.Lexicographic.{slice_cmp, pointwise}
use Rattle.std.proofs.lemmas.Cmp.{nat_list_cmp_total, tied_itself}
use Rattle.std.proofs.lemmas.Bool.{and_parts}
use Rattle.contents.specs.Rising.{Rise, IsPast, IsBelow, GoesAt, is_before, are_rising}
use Rattle.contents.proofs.SameNames.{same_name, other_name, name_is}

turned : (a b : List ℕ) → slice_cmp nat_cmp a b ≡ Less → slice_cmp nat_cmp b a ≡ Greater
turned a b h = nat_list_cmp_total.antisymm b a ∙ ap ordering_reverse h

back : (a b : List ℕ) → slice_cmp nat_cmp a b ≡ Greater → slice_cmp nat_cmp b a ≡ Less
back a b h = nat_list_cmp_total.antisymm b a ∙ ap ordering_reverse h

-- ---- the first of names that rise
abbrev pub Above : List ℕ → List (List ℕ) → Type 0
Above n names = AllByRecursion (λ y. slice_cmp nat_cmp n y ≡ Less) names

above_more : (m n : List ℕ) (names : List (List ℕ)) → slice_cmp nat_cmp m n ≡ Less → Above n names → Above m names
above_more m n [] h a = tt
above_more m n (y ∷ ys) h a = (nat_list_cmp_total.trans m n y h a.0, above_more m n ys h a.1)

past_first : (o n : List ℕ) (os : List (List ℕ)) (i : ℕ) → i < length os → Above o os → IfSome (slice_get os i) (λ y. slice_cmp nat_cmp n y ≡ Greater) → slice_cmp nat_cmp n o ≡ Greater
past_first o n [] i few a h = absurd (omega (arith, few))
past_first o n (y ∷ ys) zero few a h = turned o n (nat_list_cmp_total.trans o y n a.0 (back n y h))
past_first o n (y ∷ ys) (suc i) few a h = past_first o n ys i (omega (arith, few)) a.1 h

after_first : (n o : List ℕ) (os : List (List ℕ)) (i : ℕ) → suc i ≤ suc (length os) → Above o os → IsPast (o ∷ os) (suc i) n → slice_cmp nat_cmp n o ≡ Greater
after_first n o os zero few a h = h
after_first n o os (suc i) few a h = past_first o n os i (omega (arith, few)) a h

past_rest : (n o : List ℕ) (os : List (List ℕ)) (i : ℕ) → IsPast (o ∷ os) (suc i) n → IsPast os i n
past_rest n o os zero h = tt
past_rest n o os (suc i) h = h

goes_on : (n o : List ℕ) (os : List (List ℕ)) (i : ℕ) → GoesAt (o ∷ os) n (suc i) → GoesAt os n i
goes_on n o os i g = let w = g.within in record { within = omega (arith, w); past = past_rest n o os i g.past; below = g.below }

there_first : (n o : List ℕ) (os : List (List ℕ)) (i : ℕ) → Above o os → slice_get os i ≡ Some n → slice_cmp nat_cmp n o ≡ Greater
there_first n o [] i a h = absurd cc
there_first n o (y ∷ ys) zero a h = let e : y ≡ n = cc in subst (λ (m : List ℕ). slice_cmp nat_cmp m o ≡ Greater) e (turned o y a.0)
there_first n o (y ∷ ys) (suc i) a h = there_first n o ys i a.1 h

first_above : (o : List ℕ) (os : List (List ℕ)) → Rise (o ∷ os) → Above o os
unfolding IsStrictlySortedBy
first_above o os s = s.0

rest_rises : (o : List ℕ) (os : List (List ℕ)) → Rise (o ∷ os) → Rise os
unfolding IsStrictlySortedBy
rest_rises o os s = s.1

rises_on : (o : List ℕ) (os : List (List ℕ)) → Above o os → Rise os → Rise (o ∷ os)
unfolding IsStrictlySortedBy
rises_on o os a s = (a, s)

module _ {X : Type 0} (name : X → List ℕ) where
  abbrev pub names : List X → List (List ℕ)
  names xs = map name xs

  abbrev pub with_named : List X → X → List X
  with_named [] x = x ∷ []
  with_named (o ∷ xs) x = match_ordering (slice_cmp nat_cmp (name x) (name o)) (x ∷ o ∷ xs) (x ∷ xs) (o ∷ with_named xs x)

  abbrev pub without_named : List X → List ℕ → List X
  without_named [] n = []
  without_named (o ∷ xs) n = if pointwise nat_eq (name o) n then xs else o ∷ without_named xs n

  abbrev pub named : List X → List ℕ → Option X
  named [] n = None
  named (o ∷ xs) n = if pointwise nat_eq (name o) n then Some o else named xs n

  pub length_names : (xs : List X) → length (names xs) ≡ length xs
  length_names [] = refl
  length_names (x ∷ xs) = ap suc (length_names xs)

  pub there_few : (xs : List X) (i : ℕ) (n : List ℕ) → slice_get (names xs) i ≡ Some n → i < length xs
  there_few [] i n h = absurd cc
  there_few (x ∷ xs) zero n h = omega arith
  there_few (x ∷ xs) (suc i) n h = let low = there_few xs i n h in omega (arith, low)

  -- ---- a name that is not there
  pub with_free : (xs : List X) (x : X) (i : ℕ) → Rise (names xs) → GoesAt (names xs) (name x) i → with_named xs x ≡ take i xs ++ x ∷ drop i xs
  with_free [] x zero s g = refl
  with_free [] x (suc i) s g = let w = g.within in absurd (omega (arith, w))
  with_free (o ∷ xs) x zero s g = ap (λ (r : Ordering). match_ordering r (x ∷ o ∷ xs) (x ∷ xs) (o ∷ with_named xs x)) g.below
  with_free (o ∷ xs) x (suc i) s g =
      ap (λ (r : Ordering). match_ordering r (x ∷ o ∷ xs) (x ∷ xs) (o ∷ with_named xs x)) (after_first (name x) (name o) (names xs) i g.within (first_above (name o) (names xs) s) g.past)
      ∙ ap (λ (l : List X). o ∷ l) (with_free xs x i (rest_rises (name o) (names xs) s) (goes_on (name x) (name o) (names xs) i g))

  apart_above : (xs : List X) (n : List ℕ) → Above n (names xs) → (without_named xs n ≡ xs) × (named xs n ≡ None)
  apart_above [] n a = (refl, refl)
  apart_above (o ∷ xs) n a =
      let off : pointwise nat_eq (name o) n ≡ false = other_name (name o) n (ap is_eq (turned n (name o) a.0)) in
      let rest = apart_above xs n a.1 in (
        ap (λ (b : Bool). if b then xs else o ∷ without_named xs n) off ∙ ap (λ (l : List X). o ∷ l) rest.0,
        ap (λ (b : Bool). if b then Some o else named xs n) off ∙ rest.1,
      )

  pub absent : (xs : List X) (n : List ℕ) (i : ℕ) → Rise (names xs) → GoesAt (names xs) n i → (without_named xs n ≡ xs) × (named xs n ≡ None)
  absent [] n i s g = (refl, refl)
  absent (o ∷ xs) n zero s g = apart_above (o ∷ xs) n (g.below, above_more n (name o) (names xs) g.below (first_above (name o) (names xs) s))
  absent (o ∷ xs) n (suc i) s g =
      let off : pointwise nat_eq (name o) n ≡ false = other_name (name o) n (ap is_eq (back n (name o) (after_first n (name o) (names xs) i g.within (first_above (name o) (names xs) s) g.past))) in
      let rest = absent xs n i (rest_rises (name o) (names xs) s) (goes_on n (name o) (names xs) i g) in (
        ap (λ (b : Bool). if b then xs else o ∷ without_named xs n) off ∙ ap (λ (l : List X). o ∷ l) rest.0,
        ap (λ (b : Bool). if b then Some o else named xs n) off ∙ rest.1,
      )

  -- ---- a name that is there
  pub with_taken : (xs : List X) (x : X) (i : ℕ) → Rise (names xs) → slice_get (names xs) i ≡ Some (name x) → with_named xs x ≡ take i xs ++ x ∷ drop (suc i) xs
  with_taken [] x i s h = absurd cc
  with_taken (o ∷ xs) x zero s h =
      let e : name o ≡ name x = cc in
      ap (λ (r : Ordering). match_ordering r (x ∷ o ∷ xs) (x ∷ xs) (o ∷ with_named xs x)) (ap (λ (m : List ℕ). slice_cmp nat_cmp (name x) m) e ∙ tied_itself nat_list_cmp_total (name x))
  with_taken (o ∷ xs) x (suc i) s h =
      ap (λ (r : Ordering). match_ordering r (x ∷ o ∷ xs) (x ∷ xs) (o ∷ with_named xs x)) (there_first (name x) (name o) (names xs) i (first_above (name o) (names xs) s) h)
      ∙ ap (λ (l : List X). o ∷ l) (with_taken xs x i (rest_rises (name o) (names xs) s) h)

  pub present : (xs : List X) (n : List ℕ) (i : ℕ) → Rise (names xs) → slice_get (names xs) i ≡ Some n → (without_named xs n ≡ take i xs ++ drop (suc i) xs) × (named xs n ≡ slice_get xs i)
  present [] n i s h = absurd cc
  present (o ∷ xs) n zero s h =
      let e : name o ≡ n = cc in
      let on : pointwise nat_eq (name o) n ≡ true = same_name (name o) n e in
      (ap (λ (b : Bool). if b then xs else o ∷ without_named xs n) on, ap (λ (b : Bool). if b then Some o else named xs n) on)
  present (o ∷ xs) n (suc i) s h =
      let off : pointwise nat_eq (name o) n ≡ false = other_name (name o) n (ap is_eq (back n (name o) (there_first n (name o) (names xs) i (first_above (name o) (names xs) s) h))) in
      let rest = present xs n i (rest_rises (name o) (names xs) s) h in (
        ap (λ (b : Bool). if b then xs else o ∷ without_named xs n) off ∙ ap (λ (l : List X). o ∷ l) rest.0,
        ap (λ (b : Bool). if b then Some o else named xs n) off ∙ rest.1,
      )

  -- ---- they rise then too
  with_above : (k : List ℕ) (xs : List X) (x : X) → Above k (names xs) → slice_cmp nat_cmp k (name x) ≡ Less → Above k (names (with_named xs x))
  with_above k [] x a h = (h, tt)
  with_above k (o ∷ xs) x a h = elim (slice_cmp nat_cmp (name x) (name o)) as (λ (r : Ordering). Above k (names (match_ordering r (x ∷ o ∷ xs) (x ∷ xs) (o ∷ with_named xs x)))) [
    | Less ↦ (h, a)
    | Equal ↦ (h, a.1)
    | Greater ↦ (a.0, with_above k xs x a.1 h)
  ]

  pub with_rises : (xs : List X) (x : X) → Rise (names xs) → Rise (names (with_named xs x))
  with_rises [] x s = rises_on (name x) [] tt s
  with_rises (o ∷ xs) x s =
      let a = first_above (name o) (names xs) s in
      let rest = rest_rises (name o) (names xs) s in
      elim (slice_cmp nat_cmp (name x) (name o)) as (λ (r : Ordering). slice_cmp nat_cmp (name x) (name o) ≡ r → Rise (names (match_ordering r (x ∷ o ∷ xs) (x ∷ xs) (o ∷ with_named xs x)))) [
        | Less ↦ λ t. rises_on (name x) (names (o ∷ xs)) (t, above_more (name x) (name o) (names xs) t a) s
        | Equal ↦ λ t. rises_on (name x) (names xs) (subst (λ (m : List ℕ). Above m (names xs)) (sym (name_is (name x) (name o) t)) a) rest
        | Greater ↦ λ t. rises_on (name o) (names (with_named xs x)) (with_above (name o) xs x a (back (name x) (name o) t)) (with_rises xs x rest)
      ] refl

  without_above : (k : List ℕ) (xs : List X) (n : List ℕ) → Above k (names xs) → Above k (names (without_named xs n))
  without_above k [] n a = a
  without_above k (o ∷ xs) n a = elim (pointwise nat_eq (name o) n) as (λ (b : Bool). Above k (names (if b then xs else o ∷ without_named xs n))) [ true ↦ a.1 | false ↦ (a.0, without_above k xs n a.1) ]

  pub without_rises : (xs : List X) (n : List ℕ) → Rise (names xs) → Rise (names (without_named xs n))
  without_rises [] n s = s
  without_rises (o ∷ xs) n s =
      let a = first_above (name o) (names xs) s in
      let rest = rest_rises (name o) (names xs) s in
      elim (pointwise nat_eq (name o) n) as (λ (b : Bool). Rise (names (if b then xs else o ∷ without_named xs n))) [ true ↦ rest | false ↦ rises_on (name o) (names (without_named xs n)) (without_above (name o) xs n a) (without_rises xs n rest) ]

-- ---- names that were looked at, each beside the next
less_is : (r : Ordering) → is_lt r ≡ true → r ≡ Less
less_is Less h = refl
less_is Equal h = absurd cc
less_is Greater h = absurd cc

first_lower : (n : List ℕ) (ns : List (List ℕ)) → is_before n ns ≡ true → Rise ns → Above n ns
first_lower n [] h s = tt
first_lower n (m ∷ ns) h s = let less = less_is (slice_cmp nat_cmp n m) h in (less, above_more n m ns less (first_above m ns s))

pub looked_at : (ns : List (List ℕ)) → are_rising ns ≡ true → Rise ns
unfolding IsStrictlySortedBy
looked_at [] h = tt
looked_at (n ∷ ns) h =
    let two = and_parts (is_before n ns) (are_rising ns) h in
    let rest = looked_at ns two.1 in
    (first_lower n ns two.0 rest, rest)
