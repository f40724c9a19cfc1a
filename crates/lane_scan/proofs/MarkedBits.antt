-- A word with one bit for each number below k, set exactly where the number passes a test.
use Rattle.std.proofs.Common.{inl, inr, Bool, true, false, ◌≡◌, ℕ, ◌+◌, ◌*◌, ◌%◌, ◌^◌, ◌<◌, ◌≤◌, bit_or, arith, ◌∙◌, sym, ap, subst}
use Rattle.std.proofs.lemmas.Bool.{cases_eq}
use Rattle.std.proofs.lemmas.Nat.Bits.{bit_at_set_same, bit_at_set_other, bit_at-lt, bit_at-zero, same_from_bits}
use Rattle.std.specs.Int.{bit_at, w64}
use Rattle.std.specs.Prelude.{MatchBool}

-- P of each number below k whose bit is 1, and Q of each whose bit is 0
pub record Marked (P Q : ℕ → Type 0) (bits k : ℕ) : Type 0 where
  pub one : (j : ℕ) → j < k → bit_at bits j ≡ 1 → P j
  pub zero : (j : ℕ) → j < k → bit_at bits j ≡ 0 → Q j
  pub above : (j : ℕ) → k ≤ j → bit_at bits j ≡ 0

pub marked_yes : (P Q : ℕ → Type 0) (bits new k : ℕ) (test : Bool) → k < 64 → MatchBool test (P k) (Q k) → test ≡ true → new ≡ bit_or bits (1 * 2 ^ k % 2 ^ 64) → Marked P Q bits k → Marked P Q new (k + 1)
marked_yes P Q bits new k test l t passes e m =
    let p : P k = subst (λ b. MatchBool b (P k) (Q k)) passes t in
    let same : bit_at new k ≡ 1 = ap (λ n. bit_at n k) e ∙ bit_at_set_same w64 bits k l in
    let other : (j : ℕ) → (j ≡ k → ⊥) → bit_at new j ≡ bit_at bits j = λ j d. ap (λ n. bit_at n j) e ∙ bit_at_set_other w64 bits k l j d in
    record {
      one = λ j h b. elim (cases_eq j k) [ inl here ↦ subst P (sym here) p | inr d ↦ m.one j (omega arith) (sym (other j d) ∙ b) ];
      zero = λ j h b. elim (cases_eq j k) [ inl here ↦ absurd (omega (arith, ap (bit_at new) here)) | inr d ↦ m.zero j (omega arith) (sym (other j d) ∙ b) ];
      above = λ j h. other j (λ here. absurd (omega arith)) ∙ m.above j (omega arith);
    }

pub marked_no : (P Q : ℕ → Type 0) (bits new k : ℕ) (test : Bool) → MatchBool test (P k) (Q k) → test ≡ false → new ≡ bits → Marked P Q bits k → Marked P Q new (k + 1)
marked_no P Q bits new k test t fails e m =
    let q : Q k = subst (λ b. MatchBool b (P k) (Q k)) fails t in
    let old : (j : ℕ) → bit_at new j ≡ bit_at bits j = λ j. ap (λ n. bit_at n j) e in
    record {
      one = λ j h b. elim (cases_eq j k) [ inl here ↦ absurd (omega (arith, m.above j (omega arith), old j)) | inr d ↦ m.one j (omega arith) (sym (old j) ∙ b) ];
      zero = λ j h b. elim (cases_eq j k) [ inl here ↦ subst Q (sym here) q | inr d ↦ m.zero j (omega arith) (sym (old j) ∙ b) ];
      above = λ j h. old j ∙ m.above j (omega arith);
    }

pub marked_to : (P Q : ℕ → Type 0) (bits k n : ℕ) → k ≡ n → Marked P Q bits k → Marked P Q bits n
marked_to P Q bits k n e m = subst (Marked P Q bits) e m

-- a word all of whose bits are 0
pub no_bits : (bits : ℕ) → ((j : ℕ) → bit_at bits j ≡ 1 → ⊥) → bits ≡ 0
no_bits bits none = same_from_bits bits 0 (λ j. let l : bit_at bits j < 2 = bit_at-lt bits j in
    elim (cases_eq (bit_at bits j) 1) [ inl one ↦ absurd (none j one) | inr d ↦ (let z : bit_at bits j ≡ 0 = omega arith in z ∙ sym (bit_at-zero j)) ])
