-- Skips were listed: each skip that the log has is of a cell that a brick had listed, by its answer to the index of an internal
-- call, as a heal asks for it.
use Rattle.std.specs.Prelude.{◌≡◌, ℕ, ◌<◌, List, Some, slice_get}
use Rattle.fop_types.specs.declared.causes.SkipCause.{SkipCause}
use Rattle.fop_types.specs.declared.cells.Cell.{Cell}
use Rattle.fop_types.specs.declared.messages.BrickReq.TheVariants.{Index}
use Rattle.fop_types.specs.declared.messages.DoneArm.TheVariants.{Cells}
use Rattle.brick_machine.specs.Journal.{Journal}
use Rattle.mount_log.specs.declared.logs.Log.{Log}
use Rattle.change_audit.specs.Answered.{IsDoneIn, IsWindFor}

-- a brick's answer to the index of an internal call arrived in the event at this place, from 0, and was this list
pub record IsIndex (log : Log) (bricks : List Journal) (event : ℕ) (cells : List Cell) : Type 0 where
  pub brick : ℕ
  pub wind : ℕ
  pub graph : ℕ
  pub answered : IsDoneIn log bricks brick wind graph event Index (Cells cells)
  pub internal : IsWindFor log.winds 0 wind

-- the cell is in a list that arrived in the event at this place
pub record IsListedIn (log : Log) (bricks : List Journal) (event : ℕ) (cell : Cell) : Type 0 where
  pub cells : List Cell
  pub index : IsIndex log bricks event cells
  pub place : ℕ
  pub has : slice_get cells place ≡ Some cell

-- a brick had listed the cell by the event of this number
pub record IsListed (log : Log) (bricks : List Journal) (number : ℕ) (cell : Cell) : Type 0 where
  pub listed_at : ℕ
  pub listed : IsListedIn log bricks listed_at cell
  pub in_time : listed_at < number

abbrev pub SkipsAreListed : Log → List Journal → Type 0
SkipsAreListed log bricks = (k number : ℕ) (skip : Cell × SkipCause) → slice_get log.skips k ≡ Some skip → slice_get log.skipped k ≡ Some number → IsListed log bricks number skip.0
