-- Octal digits.
use Rattle.std.proofs.Common.{◌≡◌, ℕ, ◌+◌, ◌-◌, ◌*◌, ◌<◌, ◌≤◌, List, [], ◌∷◌, length, drop, None, get_or, arith, ap, ◌∙◌, sym}
use Rattle.std.proofs.lemmas.List.{drop_more}
use Rattle.std.proofs.lemmas.Bool.Decides.{nat_tests}
use Rattle.script_lang.specs.WordForms.{octal_after, nine_bits}

-- more digits write no smaller number
octal_grows : (v : ℕ) (ds : List ℕ) → v ≤ octal_after v ds
octal_grows v [] = omega arith
octal_grows v (d ∷ ds) = omega (arith, octal_grows (v * 8 + (d - 48)) ds)

too_great : (n : ℕ) → 511 < n → None ≡ nine_bits n
too_great n great = grind (arith, nat_tests)

-- a front above 777 octal leaves no mode
pub too_great_a_front : (w : List ℕ) (i value digit e : ℕ) → i < length w → digit ≡ get_or w i e - 48 → 511 < value * 8 + digit
    → octal_after value (drop i w) ≡ octal_after 0 w → None ≡ nine_bits (octal_after 0 w)
too_great_a_front w i value digit e within is great whole =
    let next = value * 8 + digit in
    let here : octal_after next (drop (i + 1) w) ≡ octal_after 0 w =
    ap (λ d. octal_after (value * 8 + d) (drop (i + 1) w)) is ∙ ap (octal_after value) (sym (drop_more w i e within)) ∙ whole in
    too_great (octal_after 0 w) (omega (arith, here, octal_grows next (drop (i + 1) w)))
