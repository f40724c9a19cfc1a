-- A file's bytes: a write within them, a write that goes on to a new end, and one that covers them.
use Rattle.std.proofs.Common.{◌≡◌, ◌∷◌, ◌++◌, ◌∙◌, sym, refl, ap, ℕ, ◌+◌, ◌-◌, ◌≤◌, ◌==◌, zero, suc, false, List, [], length, take, drop, replicate, arith}
use Rattle.std.proofs.lemmas.List.{drop_all}
use Rattle.fop_types.specs.FileBytes.{padded, written}

nothing_more : (bytes : List ℕ) → bytes ++ [] ≡ bytes
nothing_more [] = refl
nothing_more (b ∷ bs) = ap (λ (l : List ℕ). b ∷ l) (nothing_more bs)

pub written_within : (bytes new : List ℕ) (offset : ℕ) → (length new == 0) ≡ false → offset + length new ≤ length bytes
    → take offset bytes ++ new ++ drop (offset + length new) bytes ≡ written bytes offset new
written_within bytes [] offset some fits = absurd cc
written_within bytes (first ∷ rest) offset some fits =
    let none : offset - length bytes ≡ 0 = omega (arith, fits) in
    let same : padded bytes offset ≡ bytes = ap (λ (n : ℕ). bytes ++ replicate n 0) none ∙ nothing_more bytes in
    ap (λ (l : List ℕ). take offset l ++ (first ∷ rest) ++ drop (offset + length (first ∷ rest)) bytes) (sym same)

pub written_to_end : (bytes new : List ℕ) (offset : ℕ) → (length new == 0) ≡ false → length bytes ≤ offset + length new
    → take offset (padded bytes offset) ++ new ≡ written bytes offset new
written_to_end bytes [] offset some reaches = absurd cc
written_to_end bytes (first ∷ rest) offset some reaches =
    let done : List ℕ = take offset (padded bytes offset) ++ (first ∷ rest) in
    sym (ap (λ (l : List ℕ). done ++ l) (drop_all (offset + length (first ∷ rest)) bytes reaches) ∙ nothing_more done)

pub covered : (bytes new : List ℕ) (offset : ℕ) → offset ≡ 0 → length bytes ≤ length new → new ≡ written bytes offset new
covered [] [] offset start fits = refl
covered (b ∷ bs) [] offset start fits = absurd (omega (arith, fits))
covered bytes (first ∷ rest) zero start fits =
    sym (ap (λ (l : List ℕ). (first ∷ rest) ++ l) (drop_all (0 + length (first ∷ rest)) bytes (omega (arith, fits))) ∙ nothing_more (first ∷ rest))
covered bytes (first ∷ rest) (suc offset) start fits = absurd (omega (arith, start))
