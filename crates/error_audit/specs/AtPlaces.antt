-- Evidence at the places at which it is looked for: each is exact for what is at the place.
use Rattle.std.specs.Prelude.{◌≡◌, ℕ, ◌+◌, ◌-◌, ◌<◌, ◌≤◌, ◌⊎◌, true, List, Option, None, Some, Contains, slice_get}
use Rattle.fop_types.specs.declared.jobs.SetPlan.{SetPlan}
use Rattle.fop_types.specs.declared.messages.BrickRep.TheVariants as rep
use Rattle.fop_types.specs.declared.messages.Input.TheVariants as input
use Rattle.fop_types.specs.declared.messages.OutKind.{OutKind}
use Rattle.fop_types.specs.declared.messages.OutKind.TheVariants as out
use Rattle.fop_types.specs.declared.messages.Output.{Output}
use Rattle.wire_messages.specs.Messages.{input_in, output_in}
use Rattle.wire_messages.specs.declared.messages.Message.TheVariants.{Whole}
use Rattle.xlator_law.specs.Numbers.{wind_number, open_before}
use Rattle.xlator_law.specs.declared.winds.WindNo.{WindNo}
use Rattle.mount_log.specs.Connections.{closes_by}
use Rattle.mount_log.specs.declared.logs.HubEvent.TheVariants as logged
use Rattle.mount_log.specs.declared.logs.Log.{Log}
use Rattle.mount_log.specs.declared.logs.SentLine.{SentLine}
use Rattle.mount_log.specs.declared.logs.WindLine.{WindLine}
use Rattle.error_audit.specs.Opened.{openings_to}
use Rattle.error_audit.specs.declared.brick_replies.ReplyAt.{ReplyAt}
use Rattle.error_audit.specs.declared.connections.Opening.{Opening}
use Rattle.error_audit.specs.declared.evidence.Found.{Found}
use Rattle.error_audit.specs.declared.losses.End.{End}
use Rattle.error_audit.specs.declared.losses.Loss.{Loss}
use Rattle.error_audit.specs.declared.losses.Sent.{Sent}

-- ---- winds

-- the number is that of the open before the wind, which has one if its slot is below 2^31
pub record IsNumberOfOpen (wind : WindNo) (number : ℕ) : Type 0 where
  pub low : wind.slot < 2147483648
  pub number_is : wind_number (open_before wind) ≡ number

-- the wind line is of the call, and has the wind of this number or the wind before which the open of this number goes
pub record IsLineOf (call number : ℕ) (line : WindLine) : Type 0 where
  pub call_is : line.call ≡ call
  pub wind_is : (wind_number line.wind ≡ number) ⊎ IsNumberOfOpen line.wind number

-- the wind line at the place is so
pub record IsWindAt (log : Log) (place call number : ℕ) : Type 0 where
  pub line : WindLine
  pub there : slice_get log.winds place ≡ Some line
  pub of_call : IsLineOf call number line

-- ---- outputs

-- the output arrived from the brick in the event at the place, before the event of this number ended
pub record IsArrivedAt (log : Log) (place until brick : ℕ) (output : Output) : Type 0 where
  pub by_then : place < until
  pub bytes : List ℕ
  pub arrives : slice_get log.events place ≡ Some (logged.Arrive brick bytes)
  pub read : output_in bytes ≡ Whole output

-- a fault of a request of the call, whose wind line is at the place
pub record IsFaultAt (log : Log) (place call : ℕ) (kind : OutKind) : Type 0 where
  pub wind : ℕ
  pub kind_is : kind ≡ out.Reply wind rep.Fault
  pub of_call : IsWindAt log place call wind

-- the brick of a pair is one of the set, and its fault for the call is where it is looked for, and has the pair's place in the
-- brick's journal
pub record IsFaultedAt (log : Log) (plan : SetPlan) (call until : ℕ) (pair : ℕ × ℕ) (at : ReplyAt) : Type 0 where
  pub member : Contains plan.bricks pair.0
  pub output : Output
  pub arrived : IsArrivedAt log at.event until pair.0 output
  pub taken_is : output.taken ≡ pair.1
  pub fault : IsFaultAt log at.wind call output.kind

-- one of the replies is that fault
pub record IsFaultAmong (log : Log) (plan : SetPlan) (call until : ℕ) (replies : List Found) (pair : ℕ × ℕ) : Type 0 where
  pub one : Found
  pub among : Contains replies one
  pub brick_is : one.brick ≡ pair.0
  pub taken_is : one.taken ≡ pair.1
  pub faulted : IsFaultedAt log plan call until pair one.at

-- one of the replies is a fault of the brick
pub record HasFaultAmong (log : Log) (plan : SetPlan) (call until : ℕ) (replies : List Found) (brick : ℕ) : Type 0 where
  pub one : Found
  pub among : Contains replies one
  pub brick_is : one.brick ≡ brick
  pub faulted : IsFaultedAt log plan call until (brick, one.taken) one.at

-- ---- the end of a connection

-- the event of this number sent the brick a Disconnect of the graph by this line
pub record IsDisconnectOf (number brick graph : ℕ) (line : SentLine) : Type 0 where
  pub event_is : line.event ≡ number
  pub brick_is : line.brick ≡ brick
  pub read : input_in line.bytes ≡ Whole (input.Disconnect graph)

-- it did so by the line at the place
pub record IsDisconnectAt (log : Log) (place number brick graph : ℕ) : Type 0 where
  pub line : SentLine
  pub there : slice_get log.sent place ≡ Some line
  pub disconnects : IsDisconnectOf number brick graph line

-- a Closed of the brick arrived in the event of this number, from 1
pub record IsClosing (log : Log) (number brick : ℕ) : Type 0 where
  pub from_one : 1 ≤ number
  pub closes : closes_by brick (slice_get log.events (number - 1)) ≡ true

-- the graph's connection to the brick ends in an event by the Disconnect at a place, or by a Closed if none is given
abbrev pub EndsBy : Log → ℕ → ℕ → ℕ → Option Sent → Type 0
EndsBy log graph brick number None = IsClosing log number brick
EndsBy log graph brick number (Some sent) = IsDisconnectAt log sent.place number brick graph

-- no connection was opened since the end, which came up to the moment
pub record IsLastEnd (openings : List Opening) (graph brick moment end : ℕ) : Type 0 where
  pub from_one : 1 ≤ end
  pub later : end ≤ moment
  pub same : openings_to moment graph brick openings ≡ openings_to (end - 1) graph brick openings

pub record IsClosedSince (log : Log) (openings : List Opening) (graph brick moment : ℕ) (end : End) : Type 0 where
  pub last : IsLastEnd openings graph brick moment end.event
  pub ends : EndsBy log graph brick end.event end.by

abbrev pub IsClosedBy : Log → List Opening → ℕ → ℕ → ℕ → Option End → Type 0
IsClosedBy log openings graph brick moment None = ⊥
IsClosedBy log openings graph brick moment (Some end) = IsClosedSince log openings graph brick moment end

-- the graph had no connection to the brick yet, or the last one had ended
abbrev pub IsClosedAt : Log → List Opening → ℕ → ℕ → ℕ → Option End → Type 0
IsClosedAt log openings graph brick moment end =
    (openings_to moment graph brick openings ≡ 0) ⊎ IsClosedBy log openings graph brick moment end

-- ---- a loss

-- the moments of a loss are of a call, from the event before its submission to that of its reply
pub record IsWithin (since until : ℕ) (loss : Loss) : Type 0 where
  pub submitted : since ≤ loss.moment + 1
  pub later : loss.moment ≤ loss.found
  pub replied : loss.found ≤ until

-- the brick of a pair is one of the set, and was lost to the graph in this way, with the pair's number of its last connection
pub record IsLostBy (log : Log) (openings : List Opening) (plan : SetPlan) (graph since until : ℕ) (pair : ℕ × ℕ) (loss : Loss) : Type 0 where
  pub member : Contains plan.bricks pair.0
  pub within : IsWithin since until loss
  pub number_is : pair.1 ≡ openings_to loss.found graph pair.0 openings
  pub closed : IsClosedAt log openings graph pair.0 loss.moment loss.end
