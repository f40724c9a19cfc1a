-- How long the encodings of parts are.
use Rattle.std.proofs.Common.{◌≡◌, ◌∷◌, ◌∙◌, ◌++◌, ◌+◌, ◌-◌, ◌*◌, ◌%◌, ◌≤◌, ◌^◌, ℕ, suc, zero, min, refl, ap, ap₂, subst, List, [], length, drop, arith, length-append}
use Rattle.std.proofs.lemmas.List.{drop_all}
use Rattle.fop_types.specs.declared.cells.Cell.{Cell}
use Rattle.wire_xdr.specs.Xdr.{unit, padding, opaque, texts, list}
use Rattle.wire_xdr.specs.PartText.{cell_text}
use Rattle.wire_xdr.specs.code.Lengths.{saturating_len}
use Rattle.wire_xdr.proofs.QuadLaws.{unit_size}

pub joined_size : (a b : List ℕ) → length (a ++ b) ≡ length a + length b
joined_size a b = length-append a b

pub padding_size : (n : ℕ) → length (padding n) ≡ (4 - n % 4) % 4
padding_size zero = refl
padding_size (suc zero) = refl
padding_size (suc (suc zero)) = refl
padding_size (suc (suc (suc zero))) = refl
padding_size (suc (suc (suc (suc n)))) = padding_size n ∙ omega arith

pub opaque_size : (bytes : List ℕ) → length (opaque bytes) ≡ 4 + (length bytes + (4 - length bytes % 4) % 4)
opaque_size bytes = simp (length-append, unit_size, padding_size) refl

-- a list of parts of one size
pub same_sizes : {A : Type 0} → (text : A → List ℕ) (size : ℕ) → ((x : A) → length (text x) ≡ size) → (xs : List A) → length (texts text xs) ≡ length xs * size
same_sizes text size each [] = omega arith
same_sizes text size each (x ∷ xs) = length-append (text x) (texts text xs) ∙ ap₂ (λ (a b : ℕ). a + b) (each x) (same_sizes text size each xs) ∙ omega arith

pub units_size : (numbers : List ℕ) → length (texts unit numbers) ≡ length numbers * 4
units_size numbers = same_sizes unit 4 unit_size numbers

cell_size : (cell : Cell) → length (cell_text cell) ≡ 20
cell_size cell = simp (length-append, unit_size) refl

pub cells_size : (cells : List Cell) → length (list cell_text cells) ≡ 4 + length cells * 20
cells_size cells = simp (length-append, unit_size) (omega (arith, same_sizes cell_text 20 cell_size cells))

-- a list whose parts have all been counted
pub list_len : {A : Type 0} → (text : A → List ℕ) (xs : List A) (i total : ℕ) → length xs ≤ i → total ≤ 2 ^ 64 - 1
    → min (total + length (texts text (drop i xs))) (2 ^ 64 - 1) ≡ min (4 + length (texts text xs)) (2 ^ 64 - 1) → total ≡ saturating_len (list text xs)
list_len {A = A} text xs i total past fits h =
    let size : length (list text xs) ≡ 4 + length (texts text xs) = length-append (unit (length xs)) (texts text xs) ∙ ap (λ (n : ℕ). n + length (texts text xs)) (unit_size (length xs)) in
    let all : min (total + 0) (2 ^ 64 - 1) ≡ min (4 + length (texts text xs)) (2 ^ 64 - 1) = subst (λ (ys : List A). min (total + length (texts text ys)) (2 ^ 64 - 1) ≡ min (4 + length (texts text xs)) (2 ^ 64 - 1)) (drop_all i xs past) h in
    omega (arith, size, all, fits)
