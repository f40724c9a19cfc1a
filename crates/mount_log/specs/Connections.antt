-- The connections of graphs to bricks, by the log: one is open from the sending of its Connect until a Closed of the brick
-- arrives or its Disconnect is sent. Event 0 is the hub's making.
use Rattle.std.specs.Prelude.{ℕ, ◌+◌, ◌-◌, ◌==◌, nat_le, zero, suc, Bool, true, false, ◌&&◌, ◌||◌, not, List, [], ◌∷◌, Option, None, Some, length, slice_get, take, if◌then◌else◌}
use Rattle.std.specs.List.{list_any}
use Rattle.std.specs.Cmp.Lexicographic.{pointwise}
use Rattle.fop_types.specs.declared.messages.Input.{Input}
use Rattle.fop_types.specs.declared.messages.Input.TheVariants as input
use Rattle.fop_types.specs.declared.messages.OutKind.{OutKind}
use Rattle.fop_types.specs.declared.messages.OutKind.TheVariants as out
use Rattle.fop_types.specs.declared.messages.Output.{Output}
use Rattle.wire_xdr.specs.WireText.{input_text}
use Rattle.wire_messages.specs.Messages.{output_in}
use Rattle.wire_messages.specs.declared.messages.Message.{Message}
use Rattle.wire_messages.specs.declared.messages.Message.TheVariants.{Whole, Wrong}
use Rattle.mount_log.specs.declared.logs.HubEvent.{HubEvent}
use Rattle.mount_log.specs.declared.logs.HubEvent.TheVariants as logged
use Rattle.mount_log.specs.declared.logs.Log.{Log}
use Rattle.mount_log.specs.declared.logs.SentLine.{SentLine}
use Rattle.mount_log.specs.Graphs.{switches_in}
use Rattle.mount_log.specs.Submissions.{submitted_at}

-- ---- what is open

abbrev pub is_sent_in : ℕ → ℕ → Input → SentLine → Bool
is_sent_in number brick x line = (line.event == number) && ((line.brick == brick) && pointwise ◌==◌ line.bytes (input_text x))

-- in this event the input was sent to the brick
abbrev pub was_sent : Log → ℕ → ℕ → Input → Bool
was_sent log number brick x = list_any (is_sent_in number brick x) log.sent

abbrev pub is_closed : OutKind → Bool
is_closed out.Closed = true
is_closed other = false

abbrev pub says_closed : Message Output → Bool
says_closed (Whole x) = is_closed x.kind
says_closed (Wrong place) = false

abbrev pub closes_by : ℕ → Option HubEvent → Bool
closes_by brick None = false
closes_by brick (Some (logged.Arrive from bytes)) = (from == brick) && says_closed (output_in bytes)
closes_by brick (Some (logged.Submit session line)) = false
closes_by brick (Some (logged.Run graph task)) = false
closes_by brick (Some (logged.Act a)) = false
closes_by brick (Some (logged.Arm at p count a)) = false

-- in the event of this number, from 1, a connection to the brick ends that the graph has
abbrev pub ends_in : Log → ℕ → ℕ → ℕ → Bool
ends_in log graph brick number = closes_by brick (slice_get log.events (number - 1)) || was_sent log number brick (input.Disconnect graph)

-- whether the graph has an open connection to the brick after so many events
abbrev pub is_open_after : Log → ℕ → ℕ → ℕ → Bool
is_open_after log graph brick zero = was_sent log 0 brick (input.Connect graph 1)
is_open_after log graph brick (suc n) =
    was_sent log (suc n) brick (input.Connect graph 1) || (is_open_after log graph brick n && not (ends_in log graph brick (suc n)))

abbrev pub connect_in : ℕ → ℕ → ℕ → SentLine → ℕ
connect_in last graph brick line =
    if nat_le line.event last && ((line.brick == brick) && pointwise ◌==◌ line.bytes (input_text (input.Connect graph 1))) then 1 else 0

abbrev pub connects_among : ℕ → ℕ → ℕ → List SentLine → ℕ
connects_among last graph brick [] = 0
connects_among last graph brick (line ∷ lines) = connect_in last graph brick line + connects_among last graph brick lines

-- the number of the graph's last connection to the brick after so many events, 0 if it had none
abbrev pub last_connection : Log → ℕ → ℕ → ℕ → ℕ
last_connection log graph brick n = connects_among n graph brick log.sent

-- the graph in which a call is carried out: the newest when it was submitted
abbrev pub graph_of_call : Log → ℕ → ℕ
graph_of_call log call = 1 + length (switches_in (take (submitted_at log call - 1) log.events))
