-- The components of a path that are looked up, as the code cuts them.
use Rattle.std.proofs.Common.{◌≡◌, ◌∷◌, refl, ap, ◌∙◌, ℕ, ◌-◌, ◌==◌, suc, List, [], length, take, arith}
use Rattle.std.specs.Prelude.{None, if◌then◌else◌}
use Rattle.std.proofs.Math.Dec.{eqb-suc-zero}
use Rattle.fop_types.specs.Calls.{of_root, error}
use Rattle.fop_types.specs.Paths.{parent_parts}
use Rattle.fop_types.specs.declared.answers.AppError.{AppError}

pub of_root_is : (parts : List (List ℕ)) (e : AppError) → of_root parts e ≡ (if length parts == 0 then error e else None)
of_root_is [] e = refl
of_root_is (part ∷ parts) e = rw (eqb-suc-zero (length parts)) refl

pub parent_is : (parts : List (List ℕ)) → take (length parts - 1) parts ≡ parent_parts parts
parent_is [] = refl
parent_is (part ∷ []) = refl
parent_is (part ∷ other ∷ parts) =
    let long : length (part ∷ other ∷ parts) - 1 ≡ suc (length (other ∷ parts) - 1) = omega arith in
    ap (λ (n : ℕ). take n (part ∷ other ∷ parts)) long ∙ ap (λ (l : List (List ℕ)). part ∷ l) (parent_is (other ∷ parts))
