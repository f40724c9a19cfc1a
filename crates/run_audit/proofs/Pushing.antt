-- Numbers that are put behind others by a test.
use Rattle.std.proofs.Common.{◌≡◌, refl, ap}
use Rattle.std.specs.Prelude.{ℕ, Bool, true, false, not, List, ◌∷◌, ◌++◌, if◌then◌else◌}

pub same_test : (numbers rest : List ℕ) (a b : Bool) (n : ℕ) → a ≡ b → numbers ++ (if a then n ∷ rest else rest) ≡ numbers ++ (if b then n ∷ rest else rest)
same_test numbers rest a b n is = ap (λ (t : Bool). numbers ++ (if t then n ∷ rest else rest)) is

pub flipped : (numbers rest : List ℕ) (b : Bool) (n : ℕ) → numbers ++ (if not b then n ∷ rest else rest) ≡ numbers ++ (if b then rest else n ∷ rest)
flipped numbers rest true n = refl
flipped numbers rest false n = refl
