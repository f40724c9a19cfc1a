-- The numbers of a set, by what holds of each.
use Rattle.std.proofs.Common.{◌≡◌, inl, inr, refl, sym, ap, ◌∙◌, arith, eq-eqb, ne_eqb, ltb-true}
use Rattle.std.proofs.lemmas.Bool.{cases_eq, and_right}
use Rattle.std.specs.Prelude.{ℕ, zero, suc, ◌<◌, ◌≤◌, ◌+◌, ◌==◌, nat_lt, cond, Bool, true, false, ◌&&◌, ◌||◌, not, List, [], ◌∷◌}
use Rattle.std.specs.Int.{bit_at}
use Rattle.std.specs.List.{filter, list_any, range_with_len}
use Rattle.hub_tables.specs.SmallSets.{no_numbers, has, Adds, Drops, with_number, numbers, numbers_from, numbers_where, is_among}
use Rattle.hub_tables.specs.declared.small_set.SmallSet.{SmallSet}
use Rattle.hub_tables.proofs.SetsWhere.{none_has}

-- ---- which numbers are among those of a set

with_some : (b : Bool) (s n : ℕ) (ns : List ℕ) → is_among s (with_number b n ns) ≡ ((b && (s == n)) || is_among s ns)
with_some true s n ns = refl
with_some false s n ns = refl

or_true : (a b : Bool) → b ≡ true → (a || b) ≡ true
or_true true b is = refl
or_true false b is = is

first_true : (a b : Bool) → (a && b) ≡ true → a ≡ true
first_true true b is = refl
first_true false b is = is

none_among : (set : SmallSet) (s n more : ℕ) → has set s ≡ false → is_among s (numbers_from set n more) ≡ false
unfolding numbers_from
none_among set s n zero off = refl
none_among set s n (suc more) off =
    let first : (has set n && (s == n)) ≡ false = elim (cases_eq s n) [
      | inl e ↦ ap (λ (b : Bool). b && (s == n)) (ap (has set) (sym e) ∙ off)
      | inr d ↦ and_right (has set n) (s == n) (ne_eqb s n d)
    ] in
    with_some (has set n) s n (numbers_from set (n + 1) more)
    ∙ ap (λ (b : Bool). b || is_among s (numbers_from set (n + 1) more)) first
    ∙ none_among set s (n + 1) more off

some_among : (set : SmallSet) (s n more : ℕ) → has set s ≡ true → n ≤ s → s < n + more → is_among s (numbers_from set n more) ≡ true
unfolding numbers_from
some_among set s n zero on le lt = absurd (omega (arith, le, lt))
some_among set s n (suc more) on le lt =
    let rest : Bool = is_among s (numbers_from set (n + 1) more) in
    let later : (s ≡ n → ⊥) → rest ≡ true = λ d. some_among set s (n + 1) more on (omega (arith, le, d)) (omega (arith, lt)) in
    let first : ((has set n && (s == n)) || rest) ≡ true = elim (cases_eq s n) [
      | inl e ↦ ap (λ (b : Bool). (b && (s == n)) || rest) (ap (has set) (sym e) ∙ on) ∙ ap (λ (b : Bool). b || rest) (eq-eqb s n e)
      | inr d ↦ or_true (has set n && (s == n)) rest (later d)
    ] in
    with_some (has set n) s n (numbers_from set (n + 1) more) ∙ first

pub among : (set : SmallSet) (s : ℕ) → is_among s (numbers set) ≡ has set s
among set s = by (has set s) refl where
  by : (b : Bool) → has set s ≡ b → is_among s (numbers set) ≡ has set s
  by true on =
      let low : s < 64 = ltb-true s 64 (first_true (nat_lt s 64) (bit_at set.0 s == 1) on) in
      some_among set s 0 64 on (omega arith) (omega (arith, low)) ∙ sym on
  by false off = none_among set s 0 64 off ∙ sym off

-- ---- the numbers of which something holds

as_filtered : (b : Bool) (n : ℕ) (ns : List ℕ) → with_number b n ns ≡ cond b (n ∷ ns) ns
as_filtered true n ns = refl
as_filtered false n ns = refl

module _ (set : SmallSet) (test : ℕ → Bool) (same : (k : ℕ) → k < 64 → has set k ≡ test k) where
  same_from : (more n : ℕ) → n + more ≤ 64 → numbers_from set n more ≡ filter test (range_with_len n more)
  unfolding numbers_from
  same_from zero n le = refl
  same_from (suc more) n le =
      let first : with_number (has set n) n (numbers_from set (n + 1) more) ≡ with_number (test n) n (numbers_from set (n + 1) more)
      = ap (λ (b : Bool). with_number b n (numbers_from set (n + 1) more)) (same n (omega (arith, le))) in
      let rest : with_number (test n) n (numbers_from set (n + 1) more) ≡ with_number (test n) n (filter test (range_with_len (n + 1) more))
      = ap (λ (ns : List ℕ). with_number (test n) n ns) (same_from more (n + 1) (omega (arith, le))) in
      first ∙ rest ∙ as_filtered (test n) n (filter test (range_with_len (n + 1) more))

  pub numbers_are : numbers set ≡ numbers_where test
  unfolding numbers_where
  numbers_are = same_from 64 0 (omega arith)

-- ---- a number more, and a number less

pub numbers_with : (old new : SmallSet) (n : ℕ) → Adds old n new → numbers new ≡ numbers_where (λ k. (n == k) || is_among k (numbers old))
numbers_with old new n adds = numbers_are new (λ k. (n == k) || is_among k (numbers old)) (λ k low. adds k low ∙ ap (λ (b : Bool). (n == k) || b) (sym (among old k)))

pub numbers_without : (old new : SmallSet) (n : ℕ) → Drops old n new → numbers new ≡ numbers_where (λ k. not (n == k) && is_among k (numbers old))
numbers_without old new n drops = numbers_are new (λ k. not (n == k) && is_among k (numbers old)) (λ k low. drops k ∙ ap (λ (b : Bool). not (n == k) && b) (sym (among old k)))

none_from : (set : SmallSet) (more n : ℕ) → ((k : ℕ) → has set k ≡ false) → numbers_from set n more ≡ []
unfolding numbers_from
none_from set zero n none = refl
none_from set (suc more) n none = ap (λ (b : Bool). with_number b n (numbers_from set (n + 1) more)) (none n) ∙ none_from set more (n + 1) none

pub no_number : numbers no_numbers ≡ []
no_number = none_from no_numbers 64 0 none_has
