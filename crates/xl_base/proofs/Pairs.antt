-- Pairs of hexadecimal digits.
use Rattle.std.proofs.Common.{◌≡◌, ℕ, ◌+◌, ◌*◌, ◌%◌, ◌==◌, ◌&&◌, ◌<◌, ◌≤◌, true, cond, Some, None, List, [], ◌∷◌, ◌++◌, append-nil, length, length-drop, drop, slice_index_or, arith, ap, ◌∙◌, sym, refl}
use Rattle.std.proofs.lemmas.List.{drop_more}
use Rattle.std.specs.List.{list_all}
use Rattle.xl_base.specs.Words.{bytes_of, hex_of, hex_value, is_hex_digit}

-- fewer than two digits write nothing
pub no_pair : (w : List ℕ) → length w ≤ 1 → bytes_of w ≡ []
no_pair [] few = refl
no_pair (a ∷ []) few = refl
no_pair (a ∷ b ∷ rest) few = absurd (omega (arith, few))

-- the next pair writes the next byte
pub next_pair : (w : List ℕ) (at : ℕ) (x y : ℕ) → at + 1 < length w → x ≡ slice_index_or w at x → y ≡ slice_index_or w (at + 1) y
    → bytes_of (drop at w) ≡ (hex_value x * 16 + hex_value y) ∷ bytes_of (drop (at + 2) w)
next_pair w at x y within first second =
    let here = drop_more w at x (omega (arith, within)) in
    let next = drop_more w (at + 1) y within in
    let after : at + 1 + 1 ≡ at + 2 = omega arith in
    let both : drop at w ≡ x ∷ y ∷ drop (at + 2) w =
    here ∙ ap (λ k. k ∷ drop (at + 1) w) (sym first) ∙ ap (λ l. x ∷ l) (next ∙ ap (λ k. k ∷ drop (at + 1 + 1) w) (sym second) ∙ ap (λ k. y ∷ drop k w) after) in
    ap bytes_of both

-- all pairs of a word of hexadecimal digits were read
pub all_pairs : (w bs : List ℕ) (at : ℕ) → list_all is_hex_digit w ≡ true → length w % 2 ≡ 0 → length w ≤ at + 1
    → bs ++ bytes_of (drop at w) ≡ bytes_of w → Some bs ≡ hex_of w
all_pairs w bs at digits even end whole =
    let none = no_pair (drop at w) (omega (arith, length-drop at w)) in
    let is : bs ≡ bytes_of w = sym (append-nil bs) ∙ ap (λ l. bs ++ l) (sym none) ∙ whole in
    ap Some is ∙ ap (λ n. cond (n == 0) (Some (bytes_of w)) None) (sym even)
    ∙ ap (λ b. cond (b && (length w % 2 == 0)) (Some (bytes_of w)) None) (sym digits)
