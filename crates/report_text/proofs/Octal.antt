-- Octal digits, one at a time.
use Rattle.std.proofs.Common.{◌≡◌, ℕ, zero, suc, ◌+◌, ◌-◌, ◌*◌, ◌^◌, ◌<◌, ◌≤◌, ◌/◌, ◌%◌, ◌==◌, Bool, true, false, if◌then◌else◌, List, [], ◌∷◌, ◌++◌, refl, ap, sym, ◌∙◌, append_assoc, arith}
use Rattle.std.proofs.lemmas.Grind.{common_steps}
use Rattle.std.specs.Fmt.{digits, digits_onto, digit_glyph}
use Rattle.std.proofs.lemmas.Bool.{eq-eqb, ne_eqb}
use Rattle.std.proofs.Math.Nat.{pow-suc}

-- the last digit that is written, and one before the last
digits_onto_last : (k n : ℕ) (acc : List ℕ) → n / 8 ≡ 0 → digits_onto (suc k) 8 false n acc ≡ digit_glyph false (n % 8) ∷ acc
digits_onto_last k n acc e = ap (λ (b : Bool). if b then digit_glyph false (n % 8) ∷ acc else digits_onto k 8 false (n / 8) (digit_glyph false (n % 8) ∷ acc)) (eq-eqb (n / 8) 0 e)

digits_onto_step : (k n : ℕ) (acc : List ℕ) → (n / 8 ≡ 0 → ⊥) → digits_onto (suc k) 8 false n acc ≡ digits_onto k 8 false (n / 8) (digit_glyph false (n % 8) ∷ acc)
digits_onto_step k n acc e = ap (λ (b : Bool). if b then digit_glyph false (n % 8) ∷ acc else digits_onto k 8 false (n / 8) (digit_glyph false (n % 8) ∷ acc)) (ne_eqb (n / 8) 0 e)

digits_onto_nil : (n : ℕ) → digits 8 false n ≡ digits_onto 64 8 false n []
unfolding digits
digits_onto_nil n = refl

-- what comes after the digits may be appended later
digits_onto_append : (k n : ℕ) (acc : List ℕ) → digits_onto k 8 false n acc ≡ digits_onto k 8 false n [] ++ acc
digits_onto_append zero n acc = refl
digits_onto_append (suc k) n acc = by (n / 8 == 0) (λ (tail : List ℕ). digits_onto_append k (n / 8) tail)
  where
    g : ℕ
    g = digit_glyph false (n % 8)

    by : (b : Bool) → ((tail : List ℕ) → digits_onto k 8 false (n / 8) tail ≡ digits_onto k 8 false (n / 8) [] ++ tail) → (if b then g ∷ acc else digits_onto k 8 false (n / 8) (g ∷ acc)) ≡ (if b then g ∷ [] else digits_onto k 8 false (n / 8) (g ∷ [])) ++ acc
    by true rest = refl
    by false rest = rest (g ∷ acc) ∙ sym (append_assoc (digits_onto k 8 false (n / 8) []) (g ∷ []) acc) ∙ ap (λ (t : List ℕ). t ++ acc) (sym (rest (g ∷ [])))

-- a limit of more digits than the number has changes nothing
digits_onto_more : (k n : ℕ) (acc : List ℕ) → n < 8 ^ suc k → digits_onto (suc (suc k)) 8 false n acc ≡ digits_onto (suc k) 8 false n acc
digits_onto_more zero n acc h = digits_onto_last 1 n acc (omega arith) ∙ sym (digits_onto_last 0 n acc (omega arith))
digits_onto_more (suc k) n acc h = by (n / 8 == 0) (digits_onto_more k (n / 8) (digit_glyph false (n % 8) ∷ acc) (omega (arith, pow-suc 8 (suc k))))
  where
    g : ℕ
    g = digit_glyph false (n % 8)

    by : (b : Bool) → digits_onto (suc (suc k)) 8 false (n / 8) (g ∷ acc) ≡ digits_onto (suc k) 8 false (n / 8) (g ∷ acc) → (if b then g ∷ acc else digits_onto (suc (suc k)) 8 false (n / 8) (g ∷ acc)) ≡ (if b then g ∷ acc else digits_onto (suc k) 8 false (n / 8) (g ∷ acc))
    by true rest = refl
    by false rest = rest

glyph_of_digit : (d : ℕ) → d < 8 → digit_glyph false d ≡ 48 + d
glyph_of_digit d h = grind (arith, common_steps)

pub octal_digit : (n : ℕ) → n < 8 → digits 8 false n ≡ (48 + n) ∷ []
octal_digit n h =
    let same : n % 8 ≡ n = omega arith in
    digits_onto_nil n ∙ digits_onto_last 63 n [] (omega arith)
    ∙ ap (λ (d : ℕ). digit_glyph false d ∷ []) same ∙ ap (λ (d : ℕ). d ∷ []) (glyph_of_digit n h)

pub octal_step : (n : ℕ) → 8 ≤ n → n < 2 ^ 16 → digits 8 false n ≡ digits 8 false (n / 8) ++ (48 + n % 8) ∷ []
octal_step n low high =
    let g : ℕ = digit_glyph false (n % 8) in
    let some : n / 8 ≡ 0 → ⊥ = λ e. omega arith in
    let one : g ≡ 48 + n % 8 = glyph_of_digit (n % 8) (omega arith) in
    digits_onto_nil n ∙ digits_onto_step 63 n [] some
    ∙ digits_onto_append 63 (n / 8) (g ∷ [])
    ∙ ap (λ (t : List ℕ). t ++ g ∷ []) (sym (digits_onto_more 62 (n / 8) [] (omega arith)) ∙ sym (digits_onto_nil (n / 8)))
    ∙ ap (λ (d : ℕ). digits 8 false (n / 8) ++ d ∷ []) one

-- the last digit comes after the others
pub text_with_octal : (text old new : List ℕ) (n : ℕ) → 8 ≤ n → n < 2 ^ 16 → old ≡ text ++ digits 8 false (n / 8) → new ≡ old ++ (48 + n % 8) ∷ [] → new ≡ text ++ digits 8 false n
text_with_octal text old new n low high so_far last =
    last ∙ ap (λ (t : List ℕ). t ++ (48 + n % 8) ∷ []) so_far ∙ append_assoc text _ _
    ∙ ap (λ (t : List ℕ). text ++ t) (sym (octal_step n low high))
