-- The cells that bricks have listed, each with the place of an event in which a list arrived that has it.
use Rattle.std.specs.Prelude.{◌≡◌, ℕ, ◌<◌, ◌⊎◌, List, Option, Some, slice_get}
use Rattle.std.specs.Map.{lookup}
use Rattle.std.specs.BTreeMap.{is_at}
use Rattle.fop_types.specs.Orders.{cell_cmp}
use Rattle.fop_types.specs.declared.causes.SkipCause.{SkipCause}
use Rattle.fop_types.specs.declared.cells.Cell.{Cell}
use Rattle.fop_types.specs.declared.messages.BrickReq.TheVariants.{Index}
use Rattle.brick_machine.specs.Journal.{Journal}
use Rattle.mount_log.specs.declared.logs.Log.{Log}
use Rattle.change_audit.specs.Copying.{IsSentAs}
use Rattle.change_audit.specs.Listed.{IsListedIn, IsListed}

-- a brick was sent an index, on this wind, as its input of this count
pub record WasAsked (bricks : List Journal) (brick taken wind : ℕ) : Type 0 where
  pub graph : ℕ
  pub sent : IsSentAs bricks brick taken wind graph Index

abbrev pub event_of : List (Cell × ℕ) → Cell → Option ℕ
event_of listings cell = lookup (is_at (cell_cmp cell)) listings

-- at most this cell was added, with this event
abbrev pub AddsCell : List (Cell × ℕ) → List (Cell × ℕ) → Cell → ℕ → Type 0
AddsCell before after cell event = (c : Cell) (e : ℕ) → event_of after c ≡ Some e → (event_of before c ≡ Some e) ⊎ ((c ≡ cell) × (e ≡ event))

-- the cell is one of these, and the event is this one
pub record IsAmong (cells : List Cell) (event : ℕ) (c : Cell) (e : ℕ) : Type 0 where
  pub place : ℕ
  pub has : slice_get cells place ≡ Some c
  pub event_is : e ≡ event

-- at most these cells were added, with this event
abbrev pub AddsCells : List (Cell × ℕ) → List (Cell × ℕ) → List Cell → ℕ → Type 0
AddsCells before after cells event = (c : Cell) (e : ℕ) → event_of after c ≡ Some e → (event_of before c ≡ Some e) ⊎ IsAmong cells event c e

abbrev pub AreListings : Log → List Journal → List (Cell × ℕ) → Type 0
AreListings log bricks listings = (c : Cell) (e : ℕ) → event_of listings c ≡ Some e → IsListedIn log bricks e c

-- the skip at a place is of a cell that was listed
abbrev pub IsSkipDue : Log → List Journal → ℕ → Cell × SkipCause → Type 0
IsSkipDue log bricks k skip = (number : ℕ) → slice_get log.skipped k ≡ Some number → IsListed log bricks number skip.0
