-- Inputs in the journals of bricks.
use Rattle.std.specs.Prelude.{◌≡◌, ℕ, ◌+◌, List, Some, slice_get}
use Rattle.brick_machine.specs.Journal.{Journal}

-- the bytes are the input of a brick's journal that is counted so, from 1
pub record IsInputOf (bricks : List Journal) (brick taken : ℕ) (bytes : List ℕ) : Type 0 where
  pub at : Journal
  pub there : slice_get bricks brick ≡ Some at
  pub place : ℕ
  pub input : slice_get at.journal place ≡ Some bytes
  pub counted : taken ≡ place + 1
