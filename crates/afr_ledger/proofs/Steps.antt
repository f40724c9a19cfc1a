-- One cell more at which something is entered or taken away.
use Rattle.std.proofs.Common.{◌≡◌, ℕ, suc, zero, ◌+◌, ◌<◌, Bool, true, false, ◌&&◌, ◌||◌, ◌==◌, cond, List, [], ◌∷◌, ◌++◌, Option, Some, None, refl, sym, ap, ◌∙◌, arith, take, length, get_or}
use Rattle.std.proofs.Math.Seq.{take-suc}
use Rattle.std.specs.List.{list_any}
use Rattle.std.specs.declared.cmp.Ordering.{Ordering}
use Rattle.std.specs.declared.cmp.Ordering.TheVariants.{Less, Equal, Greater}
use Rattle.std.specs.Ordering.{is_eq, nat_cmp, ordering_then}
use Rattle.std.proofs.lemmas.Bool.{and_parts}
use Rattle.afr_ledger.specs.Changes.{covers}

at_is : (a b : ℕ) → is_eq (nat_cmp a b) ≡ (a == b)
at_is a b = grind arith

both_equal : (r s : Ordering) → is_eq (ordering_then r s) ≡ (is_eq r && is_eq s)
both_equal Less s = refl
both_equal Equal s = refl
both_equal Greater s = refl

any_push : {A : Type 0} (p : A → Bool) (xs : List A) (x : A) → list_any p (xs ++ x ∷ []) ≡ (list_any p xs || p x)
any_push p [] x = elim (p x) as (λ (b : Bool). (b || false) ≡ b) [ true ↦ refl | false ↦ refl ]
any_push p (y ∷ xs) x = elim (p y) as (λ (b : Bool). (b || list_any p (xs ++ x ∷ [])) ≡ ((b || list_any p xs) || p x)) [ true ↦ refl | false ↦ any_push p xs x ]

any_of_some : {A : Type 0} (p : A → Bool) (i : ℕ) (xs : List A) → list_any p (take i xs) ≡ true → list_any p xs ≡ true
any_of_some p zero xs h = absurd cc
any_of_some p (suc i) [] h = absurd cc
any_of_some p (suc i) (x ∷ xs) h = elim (p x) as (λ (b : Bool). (b || list_any p (take i xs)) ≡ true → (b || list_any p xs) ≡ true) [ true ↦ λ _. refl | false ↦ λ t. any_of_some p i xs t ] h

written : (a h p : Bool) (w o : Option ℕ) → cond (a && h) w (cond (a && p) w o) ≡ cond (a && (p || h)) w o
written true true true w o = refl
written true true false w o = refl
written true false true w o = refl
written true false false w o = refl
written false h p w o = refl

both_true : (a b : Bool) → a ≡ true → b ≡ true → (a && b) ≡ true
both_true true b h k = k
both_true false b h k = absurd cc

module _ {C : Type 0} (cmp : C → C → Ordering) where
  up : (i : ℕ) → i + 1 ≡ suc i
  up i = omega arith

  one_more : (set : ℕ) (cells : List C) (i : ℕ) (x : C) (s : ℕ) (cell : C) → x ≡ get_or cells i x → i < length cells → covers cmp set (take (i + 1) cells) s cell ≡ ((set == s) && (list_any (λ c. is_eq (cmp c cell)) (take i cells) || is_eq (cmp x cell)))
  one_more set cells i x s cell at fits =
      ap (λ (l : List C). covers cmp set l s cell) (ap (λ (n : ℕ). take n cells) (up i) ∙ take-suc cells i x fits ∙ ap (λ (y : C). take i cells ++ y ∷ []) (sym at))
      ∙ ap (λ (b : Bool). (set == s) && b) (any_push (λ c. is_eq (cmp c cell)) (take i cells) x)

  -- the cells so far were written, and one more
  pub write_one : (set : ℕ) (cells : List C) (i : ℕ) (x : C) (s : ℕ) (cell : C) (w old now new : Option ℕ) → x ≡ get_or cells i x → i < length cells → now ≡ cond (covers cmp set (take i cells) s cell) w old → new ≡ cond (is_eq (ordering_then (nat_cmp set s) (cmp x cell))) w now → new ≡ cond (covers cmp set (take (i + 1) cells) s cell) w old
  write_one set cells i x s cell w old now new at fits so_far step =
      step
      ∙ ap (λ (b : Bool). cond b w now) (both_equal (nat_cmp set s) (cmp x cell) ∙ ap (λ (b : Bool). b && is_eq (cmp x cell)) (at_is set s))
      ∙ ap (λ (o : Option ℕ). cond ((set == s) && is_eq (cmp x cell)) w o) so_far
      ∙ written (set == s) (is_eq (cmp x cell)) (list_any (λ c. is_eq (cmp c cell)) (take i cells)) w old
      ∙ ap (λ (b : Bool). cond b w old) (sym (one_more set cells i x s cell at fits))

  taken_back : (some all : Bool) (n : ℕ) (old : Option ℕ) → (some ≡ true → all ≡ true) → (all ≡ true → old ≡ None) → cond all None (cond some (Some n) old) ≡ old
  taken_back some true n old part free = sym (free refl)
  taken_back true false n old part free = absurd (let t = part refl in cc)
  taken_back false false n old part free = refl

  -- what was entered at some of the cells is taken away at all of them
  pub back_to : (set : ℕ) (cells : List C) (i n : ℕ) (s : ℕ) (cell : C) (old now new : Option ℕ) → (covers cmp set cells s cell ≡ true → old ≡ None) → now ≡ cond (covers cmp set (take i cells) s cell) (Some n) old → new ≡ cond (covers cmp set cells s cell) None now → new ≡ old
  back_to set cells i n s cell old now new free so_far step =
      step
      ∙ ap (λ (o : Option ℕ). cond (covers cmp set cells s cell) None o) so_far
      ∙ taken_back (covers cmp set (take i cells) s cell) (covers cmp set cells s cell) n old
      (λ h. let p = and_parts (set == s) (list_any (λ c. is_eq (cmp c cell)) (take i cells)) h in both_true (set == s) (list_any (λ c. is_eq (cmp c cell)) cells) p.0 (any_of_some (λ c. is_eq (cmp c cell)) i cells p.1)) free
