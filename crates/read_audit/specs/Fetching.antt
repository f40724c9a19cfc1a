-- What is found of one content: the fetch that a brick has answered by it, and the bricks that had granted locks before.
use Rattle.std.specs.Prelude.{◌≡◌, ℕ, Bool, List, Some, slice_get}
use Rattle.fop_types.specs.declared.answers.SplitRow.{SplitRow}
use Rattle.fop_types.specs.declared.cells.Cell.{Cell}
use Rattle.fop_types.specs.declared.contents.Content.{Content as Held}
use Rattle.fop_types.specs.declared.contents.Row.{Row}
use Rattle.fop_types.specs.declared.jobs.SetPlan.{SetPlan}
use Rattle.fop_types.specs.declared.messages.BrickReq.TheVariants.{Lock, Fetch}
use Rattle.fop_types.specs.declared.messages.DoneArm.TheVariants.{Content}
use Rattle.fop_types.specs.declared.messages.Input.TheVariants.{Request}
use Rattle.wire_xdr.specs.WireText.{input_text}
use Rattle.brick_machine.specs.Journal.{Journal}
use Rattle.mount_log.specs.declared.logs.Log.{Log}
use Rattle.change_audit.specs.Answered.{IsDoneIn, IsWindFor}
use Rattle.change_audit.specs.Copying.{IsSentAs}
use Rattle.read_audit.specs.Read.{IsGrantedIn, IsHolder, IsGroup}

-- ---- fetches

-- a brick was sent a fetch of the cell on this wind, in a graph, as its input of this count
pub record WasFetched (bricks : List Journal) (brick taken wind graph : ℕ) (cell : Cell) : Type 0 where
  pub fd : ℕ
  pub sent : IsSentAs bricks brick taken wind graph (Fetch fd cell)

-- a brick has answered a fetch of the cell for a call, in a graph, by this content, which arrived in the event at a place, from 0
pub record IsShown (log : Log) (bricks : List Journal) (call graph source event : ℕ) (cell : Cell) (content : Held) : Type 0 where
  pub wind : ℕ
  pub fd : ℕ
  pub last : ℕ
  pub answered : IsDoneIn log bricks source wind graph event (Fetch fd cell) (Content content last)
  pub of_call : IsWindFor log.winds call wind

-- ---- locks

-- these bytes are at a place in a brick's journal, from 0
pub record IsInputAt (bricks : List Journal) (brick place : ℕ) (bytes : List ℕ) : Type 0 where
  pub at : Journal
  pub there : slice_get bricks brick ≡ Some at
  pub is : slice_get at.journal place ≡ Some bytes

-- a lock of these cells for a call on this wind, in a graph, is at a place in a brick's journal
pub record WasLocked (bricks : List Journal) (brick place wind graph call : ℕ) (cells : List Cell) : Type 0 where
  pub shared : Bool
  pub sent : IsInputAt bricks brick place (input_text (Request wind graph (Lock call shared cells)))

-- a brick has granted a call a lock of these cells, in a graph, by these rows, which arrived in the event at a place, from 0
pub record IsGrantIn (log : Log) (bricks : List Journal) (call graph : ℕ) (cells : List Cell) (event brick : ℕ) (rows : List Row) : Type 0 where
  pub wind : ℕ
  pub shared : Bool
  pub granted : IsGrantedIn log bricks brick wind graph event (Lock call shared cells) rows

-- a quorum of the set's bricks, the source among them, had granted a call locks of the same cells before the event at a place, of
-- which the cell is one, and by the rows that they showed of it the source is sound
pub record HasHolders (log : Log) (bricks : List Journal) (plan : SetPlan) (call graph : ℕ) (cell : Cell) (until source : ℕ) : Type 0 where
  pub cells : List Cell
  pub place : ℕ
  pub has : slice_get cells place ≡ Some cell
  pub rows : List SplitRow
  pub group : IsGroup plan rows source (IsHolder log bricks plan call graph cells place until)
