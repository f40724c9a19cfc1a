-- What the bricks of a set showed in a lock phase, as it is found.
use Rattle.std.specs.Prelude.{◌≡◌, ℕ, ◌+◌, ◌/◌, ◌%◌, ◌<◌, ◌≤◌, List, [], ◌∷◌, ◌++◌, Option, Some, Contains, slice_get}
use Rattle.fop_types.specs.declared.cells.Cell.{Cell}
use Rattle.fop_types.specs.declared.contents.Row.{Row}
use Rattle.fop_types.specs.declared.jobs.SetPlan.{SetPlan}
use Rattle.fop_types.specs.declared.messages.BrickRep.TheVariants as rep
use Rattle.fop_types.specs.declared.messages.BrickReq.TheVariants as req
use Rattle.fop_types.specs.declared.messages.DoneArm.TheVariants as done
use Rattle.fop_types.specs.declared.messages.Input.{Input}
use Rattle.fop_types.specs.declared.messages.Input.TheVariants as input
use Rattle.fop_types.specs.declared.messages.OutKind.{OutKind}
use Rattle.fop_types.specs.declared.messages.OutKind.TheVariants as out
use Rattle.fop_types.specs.declared.messages.Output.{Output}
use Rattle.wire_messages.specs.Messages.{input_in}
use Rattle.wire_messages.specs.declared.messages.Message.{Message}
use Rattle.wire_messages.specs.declared.messages.Message.TheVariants.{Whole, Wrong}
use Rattle.mount_log.specs.Causes.{IsWindOf, IsMarked, IsSoundAt}
use Rattle.mount_log.specs.Locks.{IsLock}
use Rattle.mount_log.specs.declared.logs.Log.{Log}
use Rattle.mount_log.specs.declared.logs.SentLine.{SentLine}
use Rattle.error_audit.specs.AtPlaces.{IsWindAt, IsArrivedAt}
use Rattle.error_audit.specs.Evidence.{IsArrived}
use Rattle.error_audit.specs.declared.brick_replies.ReplyAt.{ReplyAt}
use Rattle.error_audit.specs.declared.evidence.Found.{Found}

-- an output is a brick's rows for the call's request under this wind
pub record AreRowsOf (log : Log) (call wind : ℕ) (rows : List Row) (kind : OutKind) : Type 0 where
  pub is : kind ≡ out.Reply wind (rep.Done (done.Rows rows))
  pub of_call : IsWindOf log call wind

-- by the event of this number the brick answered the call's request under this wind by these rows
pub record HaveRows (log : Log) (call until brick wind : ℕ) (rows : List Row) : Type 0 where
  pub output : Output
  pub came : IsArrived log until brick output
  pub rows_are : AreRowsOf log call wind rows output.kind

-- a list has one item more at its end
pub record IsOneMore {X : Type 0} (P : X → Type 0) (old new : List X) : Type 0 where
  pub item : X
  pub has : P item
  pub is : new ≡ old ++ item ∷ []

-- an input is the mark of a change of these cells
pub record IsMarkOf (cells : List Cell) (x : Input) : Type 0 where
  pub wind : ℕ
  pub graph : ℕ
  pub change : ℕ
  pub is : x ≡ input.Request wind graph (req.Mark change cells)

abbrev pub IsMarkOn : List Cell → Message Input → Type 0
IsMarkOn cells (Whole x) = IsMarkOf cells x
IsMarkOn cells (Wrong place) = ⊥

-- the line at the place, before this one, was sent to a brick of the set, and is the mark of a change of these cells
pub record IsMarkedAt (log : Log) (plan : SetPlan) (before : ℕ) (cells : List Cell) (at : ℕ) : Type 0 where
  pub earlier : at < before
  pub line : SentLine
  pub there : slice_get log.sent at ≡ Some line
  pub member : Contains plan.bricks line.brick
  pub marks : IsMarkOn cells (input_in line.bytes)

-- there is such a line at one of the places
pub record HasMark (log : Log) (plan : SetPlan) (before : ℕ) (cells : List Cell) (places : List ℕ) : Type 0 where
  pub at : ℕ
  pub among : Contains places at
  pub marked : IsMarkedAt log plan before cells at

-- if there is such a line, there is one at one of the places
abbrev pub AreMarks : Log → SetPlan → ℕ → List Cell → List ℕ → Type 0
AreMarks log plan before cells places = IsMarked log plan before cells → HasMark log plan before cells places

-- so many replicas, an odd number, and the majority of them
pub record IsSized (n q : ℕ) : Type 0 where
  pub odd : n % 2 ≡ 1
  pub few : n ≤ 5
  pub majority : q ≡ (n + 1) / 2

-- the cell at one of the places has no sound replica
pub record HasUnsoundCell (plan : SetPlan) (shown : List (Option (List Row))) (places : List ℕ) : Type 0 where
  pub place : ℕ
  pub among : Contains places place
  pub none : (replica : ℕ) → IsSoundAt plan shown replica place → ⊥

-- ---- at the places at which it is looked for

-- an output is a brick's rows for the call's request under this wind, whose wind line is at the place
pub record AreRowsAt (log : Log) (place call wind : ℕ) (rows : List Row) (kind : OutKind) : Type 0 where
  pub is : kind ≡ out.Reply wind (rep.Done (done.Rows rows))
  pub of_call : IsWindAt log place call wind

-- by the event of this number the brick answered the call's request under this wind by these rows, where it is looked for
pub record HaveRowsAt (log : Log) (call until brick wind : ℕ) (at : ReplyAt) (rows : List Row) : Type 0 where
  pub output : Output
  pub came : IsArrivedAt log at.event until brick output
  pub rows_are : AreRowsAt log at.wind call wind rows output.kind

-- it answered the call's lock of these cells so, which is at a place of the lock phase
pub record IsGrantedAt (log : Log) (call until from : ℕ) (cells : List Cell) (brick lock : ℕ) (at : ReplyAt) (rows : List Row) : Type 0 where
  pub later : from ≤ lock
  pub wind : ℕ
  pub asked : IsLock log call lock brick wind cells
  pub rows_are : HaveRowsAt log call until brick wind at rows

-- one of the replies is that answer
pub record IsGrantAmong (log : Log) (call until from : ℕ) (cells : List Cell) (brick lock : ℕ) (replies : List Found) : Type 0 where
  pub one : Found
  pub among : Contains replies one
  pub brick_is : one.brick ≡ brick
  pub rows : List Row
  pub granted : IsGrantedAt log call until from cells brick lock one.at rows
