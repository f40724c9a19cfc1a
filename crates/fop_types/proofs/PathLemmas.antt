use Rattle.std.proofs.Common.{◌≡◌, ℕ, ◌-◌, ◌<◌, List, [], ◌∷◌, length, get_or, refl, arith}
use Rattle.fop_types.specs.Paths.{last_part}

-- the last component is the one at the last place
pub last_at : (part : List ℕ) (parts : List (List ℕ)) (d : List ℕ) → get_or (part ∷ parts) (length parts) d ≡ last_part (part ∷ parts)
last_at part [] d = refl
last_at part (other ∷ parts) d = last_at other parts d

pub last_read : (parts : List (List ℕ)) (n : ℕ) (d : List ℕ) → n ≡ length parts → 0 < n → get_or parts (n - 1) d ≡ last_part parts
last_read [] n d same some = absurd (omega arith)
last_read (part ∷ parts) n d same some =
    let place : n - 1 ≡ length parts = omega arith in
    rw place (last_at part parts d)
