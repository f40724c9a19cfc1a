-- Hexadecimal digits, one at a time.
use Rattle.std.proofs.Common.{◌≡◌, ℕ, zero, suc, ◌-◌, ◌<◌, ◌/◌, ◌%◌, false, List, [], ◌∷◌, ◌++◌, refl, ap, sym, ◌∙◌, append_assoc, arith}
use Rattle.std.proofs.lemmas.List.{append-nil}
use Rattle.std.specs.Fmt.{digit_glyph}
use Rattle.report_text.specs.Words.{hex_of}

hex_of_zero : (count n : ℕ) → count ≡ 0 → hex_of count n ≡ []
unfolding hex_of
hex_of_zero zero n e = refl
hex_of_zero (suc count) n e = absurd (omega arith)

hex_of_step : (count n : ℕ) → 0 < count → hex_of count n ≡ hex_of (count - 1) (n / 16) ++ digit_glyph false (n % 16) ∷ []
unfolding hex_of
hex_of_step zero n h = absurd (omega arith)
hex_of_step (suc count) n h = let e : count ≡ suc count - 1 = omega arith in ap (λ (k : ℕ). hex_of k (n / 16) ++ digit_glyph false (n % 16) ∷ []) e

-- no digits leave a text as it is
pub text_alone : (text : List ℕ) (count n : ℕ) → count ≡ 0 → text ≡ text ++ hex_of count n
text_alone text count n e = sym (append-nil text) ∙ ap (λ (t : List ℕ). text ++ t) (sym (hex_of_zero count n e))

-- the last digit comes after the others
pub text_with_digit : (text old new : List ℕ) (count n digit : ℕ) → 0 < count → old ≡ text ++ hex_of (count - 1) (n / 16) → digit ≡ digit_glyph false (n % 16) → new ≡ old ++ digit ∷ [] → new ≡ text ++ hex_of count n
text_with_digit text old new count n digit h so_far glyph last =
    last ∙ ap (λ (t : List ℕ). t ++ digit ∷ []) so_far ∙ append_assoc text _ _
    ∙ ap (λ (d : ℕ). text ++ (hex_of (count - 1) (n / 16) ++ d ∷ [])) glyph
    ∙ ap (λ (t : List ℕ). text ++ t) (sym (hex_of_step count n h))
