-- What ends the wind of a request.
use Rattle.std.proofs.Common.{◌≡◌, refl, sym, ap, subst, ◌∙◌}
use Rattle.std.specs.Prelude.{ℕ, ◌-◌, ◌==◌, if◌then◌else◌, Bool, true, false, List, None, Some, slice_get}
use Rattle.fop_types.specs.declared.messages.BrickRep.{BrickRep}
use Rattle.fop_types.specs.declared.messages.BrickRep.TheVariants as rep
use Rattle.fop_types.specs.declared.messages.Input.{Input}
use Rattle.fop_types.specs.declared.messages.Input.TheVariants as input
use Rattle.fop_types.specs.declared.messages.OutKind.{OutKind}
use Rattle.fop_types.specs.declared.messages.OutKind.TheVariants as out
use Rattle.fop_types.specs.declared.messages.Output.{Output}
use Rattle.wire_messages.specs.Messages.{input_in, output_in}
use Rattle.wire_messages.specs.declared.messages.Message.{Message}
use Rattle.wire_messages.specs.declared.messages.Message.TheVariants.{Whole, Wrong}
use Rattle.xlator_law.specs.declared.winds.WindNo.{WindNo}
use Rattle.mount_log.specs.Follows.{IsEvent}
use Rattle.mount_log.specs.Ties.{IsNumberOf, EndsWind, IsEndedBy, ByOutput, ByDisconnect, HasEnd}
use Rattle.mount_log.specs.declared.logs.HubEvent.{HubEvent}
use Rattle.mount_log.specs.declared.logs.HubEvent.TheVariants as logged
use Rattle.mount_log.specs.declared.logs.Log.{Log}
use Rattle.mount_log.specs.declared.logs.WindLine.{WindLine}
use Rattle.mount_log.specs.Heads.{reply_head, kind_head, head_in, head_of, heads_of}
use Rattle.mount_log.specs.Switches.{event_of}
use Rattle.mount_log.specs.declared.heads.Head.{Head}
use Rattle.mount_log.proofs.Heading.{head_is}
use Rattle.line_audit.specs.Ended.{head_by, SaysEnd, IsEndEvent, SaysDisconnect, IsDisconnectAt, IsEndingOf}
use Rattle.line_audit.proofs.Causing.{event_there}

-- ---- by an output

reply_ends : (wind : WindNo) (number : ℕ) (r : BrickRep) → SaysEnd wind (reply_head number r) → IsNumberOf wind number
reply_ends wind number rep.Gone ends = ends
reply_ends wind number (rep.Done arm) ends = ends
reply_ends wind number rep.Fault ends = ends
reply_ends wind number rep.Unfit ends = ends
reply_ends wind number rep.BadFd ends = ends

kind_ends : (wind : WindNo) (kind : OutKind) → SaysEnd wind (kind_head kind) → EndsWind wind kind
kind_ends wind (out.Reply number r) ends = reply_ends wind number r ends
kind_ends wind out.Closed ends = ends
kind_ends wind out.Opened none = absurd none
kind_ends wind (out.Connected graph version) none = absurd none
kind_ends wind (out.Malformed place) none = absurd none

-- the head of an event's number is that of the event
pub head_by_is : (log : Log) (heads : List Head) (number : ℕ) (e : HubEvent) (h : Head) → heads ≡ heads_of log.events → event_of log number ≡ Some e → head_by heads number ≡ Some h → h ≡ head_of e
head_by_is log heads number e h are event head = by (number == 0) event head where
  by : (b : Bool) → (if b then None else slice_get log.events (number - 1)) ≡ Some e → (if b then None else slice_get heads (number - 1)) ≡ Some h → h ≡ head_of e
  by true none head_none = absurd cc
  by false event_there head_there = head_is heads log.events (number - 1) e h are event_there head_there

pub by_output : (log : Log) (brick : ℕ) (line : WindLine) (e : HubEvent) → event_of log line.event ≡ Some e → IsEndEvent brick line.wind e → IsEndedBy log brick line
by_output log brick line (logged.Arrive from bytes) there ends = by (output_in bytes) refl ends.1 where
  event : IsEvent log line.event (logged.Arrive brick bytes)
  event = subst (λ (b : ℕ). IsEvent log line.event (logged.Arrive b bytes)) ends.0 (event_there log line.event (logged.Arrive from bytes) there)

  by : (m : Message Output) → output_in bytes ≡ m → SaysEnd line.wind (head_in m).said → IsEndedBy log brick line
  by (Whole output) read says = ByOutput bytes output event read (kind_ends line.wind output.kind says)
  by (Wrong place) read none = absurd none
by_output log brick line (logged.Submit session l) there ends = absurd ends
by_output log brick line (logged.Run g task) there ends = absurd ends
by_output log brick line (logged.Act a) there ends = absurd ends
by_output log brick line (logged.Arm at p count a) there ends = absurd ends

-- ---- by a Disconnect

pub by_disconnect : (log : Log) (brick : ℕ) (line : WindLine) (at : ℕ) → IsDisconnectAt log.sent at line.event brick line.graph → IsEndedBy log brick line
by_disconnect log brick line at found = by (input_in found.line.bytes) refl found.is.says where
  by : (m : Message Input) → input_in found.line.bytes ≡ m → SaysDisconnect line.graph m → IsEndedBy log brick line
  by (Whole x) read is = ByDisconnect at found.line found.there found.is.event_is found.is.brick_is (read ∙ ap Whole is)
  by (Wrong place) read none = absurd none

-- ---- of a request

pub ended : (log : Log) (brick number graph place : ℕ) (line : WindLine) → slice_get log.winds place ≡ Some line → IsEndingOf number graph line → IsEndedBy log brick line → HasEnd log brick number graph
ended log brick number graph place line there of by =
    record { place = place; ending = line; there = there; is_end = of.is_end; same_graph = of.same_graph; of_wind = of.of_wind; by = by }
