-- Requests that a brick has answered Done by what arrived, and the winds that they were sent for.
use Rattle.std.specs.Prelude.{◌≡◌, ℕ, ◌+◌, ◌<◌, ◌≤◌, ◌==◌, true, List, Some, length, slice_get}
use Rattle.std.specs.List.{AllByRecursion, IsDistinct}
use Rattle.fop_types.specs.declared.jobs.SetPlan.{SetPlan}
use Rattle.fop_types.specs.declared.messages.BrickRep.TheVariants.{Done}
use Rattle.fop_types.specs.declared.messages.BrickReq.{BrickReq}
use Rattle.fop_types.specs.declared.messages.DoneArm.{DoneArm}
use Rattle.fop_types.specs.declared.messages.Input.TheVariants.{Request}
use Rattle.fop_types.specs.declared.messages.OutKind.TheVariants.{Reply}
use Rattle.wire_xdr.specs.WireText.{input_text, output_text}
use Rattle.brick_machine.specs.Journal.{Journal}
use Rattle.mount_log.specs.declared.logs.HubEvent.TheVariants.{Arrive}
use Rattle.mount_log.specs.declared.logs.Log.{Log}
use Rattle.mount_log.specs.declared.logs.WindLine.{WindLine}
use Rattle.xlator_law.specs.Numbers.{wind_number}

-- different bricks, at least as many as the quorum of their set, of each of which something holds
pub record IsQuorum (plan : SetPlan) (bricks : List ℕ) (Holds : ℕ → Type 0) : Type 0 where
  pub differ : IsDistinct ◌==◌ bricks
  pub enough : plan.q ≤ length bricks
  pub each : AllByRecursion Holds bricks

-- a request of a graph on a wind is in a brick's journal, and its Done arrived in the event at this place, from 0
pub record IsDoneIn (log : Log) (bricks : List Journal) (brick wind graph event : ℕ) (req : BrickReq) (arm : DoneArm) : Type 0 where
  pub at : Journal
  pub there : slice_get bricks brick ≡ Some at
  pub place : ℕ
  pub request : slice_get at.journal place ≡ Some (input_text (Request wind graph req))
  pub arrived : slice_get log.events event ≡ Some (Arrive brick (output_text (record { taken = place + 1; kind = Reply wind (Done arm) })))

-- the wind of this number was opened for the call; what is asked for here is never the open that goes before a request
pub record IsWindFor (winds : List WindLine) (call wind : ℕ) : Type 0 where
  pub place : ℕ
  pub line : WindLine
  pub there : slice_get winds place ≡ Some line
  pub opened : line.opened ≡ true
  pub call_is : line.call ≡ call
  pub number_is : wind_number line.wind ≡ wind

-- the wind of this number was opened for the call, in the event of this number
pub record IsOpenedIn (winds : List WindLine) (call wind number : ℕ) : Type 0 where
  pub place : ℕ
  pub line : WindLine
  pub there : slice_get winds place ≡ Some line
  pub opened : line.opened ≡ true
  pub call_is : line.call ≡ call
  pub number_is : wind_number line.wind ≡ wind
  pub event_is : line.event ≡ number

-- the wind of this number was opened for the call, in the event at this place, from 0, or behind it
pub record IsOpenedSince (winds : List WindLine) (call wind event : ℕ) : Type 0 where
  pub number : ℕ
  pub opened : IsOpenedIn winds call wind number
  pub since : event < number
