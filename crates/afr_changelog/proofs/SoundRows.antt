-- The mask of the replicas that pass, bit by bit.
use Rattle.std.proofs.Common.{inl, inr, Bool, true, false, IsTrue, ◌≡◌, ℕ, ◌+◌, ◌*◌, ◌%◌, ◌^◌, ◌<◌, ◌≤◌, ◌↔◌, bit_or, arith, ◌∙◌, sym, ap, subst}
use Rattle.std.proofs.lemmas.Bool.{cases_eq, cases_lt}
use Rattle.std.proofs.lemmas.Nat.Bits.{bit_at_set_same, bit_at_set_other}
use Rattle.std.specs.Int.{bit_at, w8}

-- below k the bits say which numbers pass, and from k on none is 1
pub record Marked (P : ℕ → Type 0) (mask k : ℕ) : Type 0 where
  pub below : (j : ℕ) → j < k → (bit_at mask j ≡ 1) ↔ P j
  pub above : (j : ℕ) → k ≤ j → bit_at mask j ≡ 0

-- one more number, by a test that says whether it passes
pub marked_yes : (P : ℕ → Type 0) (mask new k : ℕ) (test : Bool) → k < 8 → IsTrue test ↔ P k → test ≡ true → new ≡ bit_or mask (1 * 2 ^ k % 2 ^ 8) → Marked P mask k → Marked P new (k + 1)
marked_yes P mask new k test l t passes e m = let p : P k = t.0 passes in record {
  below = λ j h. elim (cases_eq j k) [
    | inl same ↦ (λ _. subst P (sym same) p, λ _. ap (bit_at new) same ∙ ap (λ n. bit_at n k) e ∙ bit_at_set_same w8 mask k l)
    | inr other ↦ let o : bit_at new j ≡ bit_at mask j = ap (λ n. bit_at n j) e ∙ bit_at_set_other w8 mask k l j other in
        let b = m.below j (omega arith) in (λ x. b.0 (sym o ∙ x), λ x. o ∙ b.1 x)
  ];
  above = λ j h. ap (λ n. bit_at n j) e ∙ bit_at_set_other w8 mask k l j (λ same. absurd (omega arith)) ∙ m.above j (omega arith);
}

pub marked_no : (P : ℕ → Type 0) (mask new k : ℕ) (test : Bool) → IsTrue test ↔ P k → test ≡ false → new ≡ mask → Marked P mask k → Marked P new (k + 1)
marked_no P mask new k test t fails e m = record {
  below = λ j h. elim (cases_eq j k) [
    | inl same ↦ (
      λ x. let z : bit_at new j ≡ 0 = ap (λ n. bit_at n j) e ∙ m.above j (omega arith) in absurd (omega arith),
      λ x. let passes : test ≡ true = t.1 (subst P same x) in absurd cc,
    )
    | inr other ↦ let o : bit_at new j ≡ bit_at mask j = ap (λ n. bit_at n j) e in let b = m.below j (omega arith) in (λ x. b.0 (sym o ∙ x), λ x. o ∙ b.1 x)
  ];
  above = λ j h. ap (λ n. bit_at n j) e ∙ m.above j (omega arith);
}

pub marked_passes : (P : ℕ → Type 0) (mask n : ℕ) → Marked P mask n → (k : ℕ) → bit_at mask k ≡ 1 → P k
marked_passes P mask n m k b = elim (cases_lt k n) [
  | inl l ↦ (m.below k l).0 b
  | inr h ↦ let z : bit_at mask k ≡ 0 = m.above k h in absurd (omega arith)
]
