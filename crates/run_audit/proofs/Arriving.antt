-- Events in which the output of a request, a Down or an Up arrived are those whose heads say so.
use Rattle.std.proofs.Common.{◌≡◌, refl, ap, ◌∙◌}
use Rattle.std.specs.Prelude.{ℕ, ◌+◌, Bool, List, [], ◌∷◌, if◌then◌else◌}
use Rattle.fop_types.specs.declared.messages.BrickRep.{BrickRep}
use Rattle.fop_types.specs.declared.messages.BrickRep.TheVariants as rep
use Rattle.fop_types.specs.declared.messages.OutKind.{OutKind}
use Rattle.fop_types.specs.declared.messages.OutKind.TheVariants as out
use Rattle.fop_types.specs.declared.messages.Output.{Output}
use Rattle.wire_messages.specs.Messages.{output_in}
use Rattle.wire_messages.specs.declared.messages.Message.{Message}
use Rattle.wire_messages.specs.declared.messages.Message.TheVariants.{Whole, Wrong}
use Rattle.mount_log.specs.Phases.{is_due, says_due, brings_due, arrived_from}
use Rattle.mount_log.specs.declared.logs.HubEvent.{HubEvent}
use Rattle.mount_log.specs.declared.logs.HubEvent.TheVariants as logged
use Rattle.mount_log.specs.Heads.{reply_head, kind_head, head_in, head_of, heads_of}
use Rattle.mount_log.specs.declared.heads.Head.{Head}
use Rattle.run_audit.specs.Counting.{is_due_head, due_from}

reply_due : (wind : ℕ) (r : BrickRep) → is_due_head (reply_head wind r) ≡ is_due (out.Reply wind r)
reply_due wind (rep.Done arm) = refl
reply_due wind rep.Gone = refl
reply_due wind rep.Fault = refl
reply_due wind rep.Unfit = refl
reply_due wind rep.BadFd = refl

kind_due : (k : OutKind) → is_due_head (kind_head k) ≡ is_due k
kind_due (out.Reply wind r) = reply_due wind r
kind_due out.Closed = refl
kind_due out.Opened = refl
kind_due (out.Connected graph version) = refl
kind_due (out.Malformed place) = refl

message_due : (m : Message Output) → is_due_head (head_in m).said ≡ says_due m
message_due (Whole output) = kind_due output.kind
message_due (Wrong place) = refl

event_due : (e : HubEvent) → is_due_head (head_of e).said ≡ brings_due e
event_due (logged.Arrive brick bytes) = message_due (output_in bytes)
event_due (logged.Submit session line) = refl
event_due (logged.Run graph task) = refl
event_due (logged.Act a) = refl
event_due (logged.Arm at p count a) = refl

all_due : (number : ℕ) (events : List HubEvent) → due_from number (heads_of events) ≡ arrived_from number events
all_due number [] = refl
all_due number (e ∷ es) =
    ap (λ (l : List ℕ). if is_due_head (head_of e).said then number ∷ l else l) (all_due (number + 1) es)
    ∙ ap (λ (b : Bool). if b then number ∷ arrived_from (number + 1) es else arrived_from (number + 1) es) (event_due e)

-- by the heads of these events
pub arrived_by : (events : List HubEvent) (heads : List Head) → heads ≡ heads_of events → due_from 1 heads ≡ arrived_from 1 events
arrived_by events heads are = ap (due_from 1) are ∙ all_due 1 events
