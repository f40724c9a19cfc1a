-- Soundness as a test says what the mask of sound replicas names.
use Rattle.std.proofs.Common.{◌≡◌, ℕ, ◌-◌, ◌<◌, ◌↔◌, Bool, true, false, ◌&&◌, ◌==◌, nat_lt, List, Option, Some, None, refl, sym, ◌∙◌, ap, arith, slice_index}
use Rattle.std.proofs.lemmas.Bool.{and_parts}
use Rattle.std.proofs.lemmas.Bool.Decides.{nat_tests}
use Rattle.fop_types.specs.declared.contents.Mask.{Mask}
use Rattle.fop_types.specs.declared.contents.Row.{Row}
use Rattle.afr_changelog.specs.Masks.{Names}
use Rattle.afr_changelog.specs.Soundness.{IsSound, row_of, reached_in, accusers_of}
use Rattle.afr_phases.specs.Flags.{names}
use Rattle.afr_phases.specs.Shown.{is_row_good, is_sound}

same : (a b : Bool) → (a ≡ true → b ≡ true) → (b ≡ true → a ≡ true) → a ≡ b
same true b h k = sym (h refl)
same false true h k = k refl
same false false h k = refl

is_one : (n : ℕ) → (n == 1) ≡ true → n ≡ 1
is_one n h = grind (arith, h)

one_is : (n : ℕ) → n ≡ 1 → (n == 1) ≡ true
one_is n h = grind (arith, h)

is_less : (a b : ℕ) → nat_lt a b ≡ true → a < b
is_less a b h = grind (arith, nat_tests, h)

less_is : (a b : ℕ) → a < b → nat_lt a b ≡ true
less_is a b h = grind (arith, nat_tests, h)

is_zero : (n : ℕ) → (n == 0) ≡ true → n ≡ 0
is_zero n h = grind (arith, h)

zero_is : (n : ℕ) → n ≡ 0 → (n == 0) ≡ true
zero_is n h = grind (arith, h)

both_true : (a b : Bool) → a ≡ true → b ≡ true → (a && b) ≡ true
both_true true b h k = k
both_true false b h k = absurd cc

module _ (rows : List (Option Row)) (n q k : ℕ) where
  sound_at : (o : Option Row) → row_of rows k ≡ o → is_row_good o k ≡ true → accusers_of rows k < reached_in rows - (n - q) → IsSound rows n q k
  sound_at None is good few = absurd cc
  sound_at (Some row) is good few =
      let p = and_parts row.present (slice_index row.pending k == 0) good in
      record { row = row; reached = is; present = p.0; trusts_itself = is_zero (slice_index row.pending k) p.1; few_accusers = few }

  test_sound : is_sound rows n q k ≡ true → IsSound rows n q k
  test_sound h =
      let p = and_parts (is_row_good (row_of rows k) k) (nat_lt (accusers_of rows k) (reached_in rows - (n - q))) h in
      sound_at (row_of rows k) refl p.0 (is_less (accusers_of rows k) (reached_in rows - (n - q)) p.1)

  pub sound_test : IsSound rows n q k → is_sound rows n q k ≡ true
  sound_test s =
      both_true (is_row_good (row_of rows k) k) (nat_lt (accusers_of rows k) (reached_in rows - (n - q)))
      (ap (λ (o : Option Row). is_row_good o k) s.reached ∙ both_true s.row.present (slice_index s.row.pending k == 0) s.present (zero_is (slice_index s.row.pending k) s.trusts_itself))
      (less_is (accusers_of rows k) (reached_in rows - (n - q)) s.few_accusers)

  pub named_is : (mask : Mask) → Names mask k ↔ IsSound rows n q k → names mask k ≡ is_sound rows n q k
  named_is mask h = same (names mask k) (is_sound rows n q k) (λ t. sound_test (h.0 (is_one _ t))) (λ t. one_is _ (h.1 (test_sound t)))
