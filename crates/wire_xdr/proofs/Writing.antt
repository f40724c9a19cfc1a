-- What the writers of parts put, one after the other.
use Rattle.std.proofs.Common.{◌≡◌, ◌<◌, ◌≤◌, ◌∷◌, ◌∙◌, ◌++◌, ◌+◌, ◌-◌, ◌%◌, ◌/◌, ℕ, suc, zero, sym, refl, ap, List, [], length, take, arith, append_assoc, append-nil}
use Rattle.wire_xdr.specs.Xdr.{unit, padding}

pub padding_is : (n : ℕ) → padding n ≡ take ((4 - n % 4) % 4) (0 ∷ 0 ∷ 0 ∷ [])
padding_is zero = refl
padding_is (suc zero) = refl
padding_is (suc (suc zero)) = refl
padding_is (suc (suc (suc zero))) = refl
padding_is (suc (suc (suc (suc n)))) =
    let same : (4 - n % 4) % 4 ≡ (4 - suc (suc (suc (suc n))) % 4) % 4 = omega arith in
    padding_is n ∙ ap (λ (k : ℕ). take k (0 ∷ 0 ∷ 0 ∷ [])) same

pub joined : (a b c d : List ℕ) → ((a ++ b) ++ c) ++ d ≡ a ++ (b ++ (c ++ d))
joined a b c d = append_assoc (a ++ b) c d ∙ append_assoc a b (c ++ d)

pub low_unit : (n : ℕ) → unit (n % 4294967296) ≡ unit n
unfolding unit
low_unit n =
    let p0 : n % 4294967296 / 16777216 % 256 ≡ n / 16777216 % 256 = omega arith in
    let p1 : n % 4294967296 / 65536 % 256 ≡ n / 65536 % 256 = omega arith in
    let p2 : n % 4294967296 / 256 % 256 ≡ n / 256 % 256 = omega arith in
    let p3 : n % 4294967296 % 256 ≡ n % 256 = omega arith in
    rw (p0, p1, p2, p3) refl
