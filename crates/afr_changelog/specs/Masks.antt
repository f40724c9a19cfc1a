-- A mask names replicas: replica k where bit k is 1.
use Rattle.std.specs.Prelude.{◌≡◌, ℕ, ◌<◌, List}
use Rattle.std.specs.Int.{bit_at}
use Rattle.std.specs.List.{All}
use Rattle.fop_types.specs.declared.contents.Mask.{Mask}

-- the mask names the replica
abbrev pub Names : Mask → ℕ → Type 0
Names mask replica = bit_at mask.0 replica ≡ 1

-- each of the masks names the replica
abbrev pub IsCommon : List Mask → ℕ → Type 0
IsCommon masks replica = All (λ mask. Names mask replica) masks

-- the replica is the lowest that each of the masks names
pub record IsLowestCommon (masks : List Mask) (replica : ℕ) : Type 0 where
  pub common : IsCommon masks replica
  pub lowest : (lower : ℕ) → lower < replica → ¬ IsCommon masks lower
