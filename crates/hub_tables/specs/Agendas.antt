-- What decides what is due in a hub: how far the sessions are, the controls of the phase, whether an internal call is under way, and
-- how many requests, Downs and Ups have no output so far. What is due of it; and what each event makes of it, by the lines that the
-- event adds to the log. Ours.
use Rattle.std.specs.Prelude.{ℕ, zero, suc, ◌+◌, ◌-◌, ◌==◌, min, nat_lt, Bool, true, false, ◌&&◌, ◌||◌, not, List, [], ◌∷◌, ◌++◌, length, take, Option, None, Some, is_none, is_some, slice_get, if◌then◌else◌}
use Rattle.std.specs.Cmp.Lexicographic.{pointwise}
use Rattle.fop_types.specs.declared.messages.Input.TheVariants as input
use Rattle.fop_types.specs.declared.messages.Proc.{Proc}
use Rattle.wire_xdr.specs.WireText.{input_text}
use Rattle.script_lang.specs.StatementText.{is_great_action}
use Rattle.script_lang.specs.declared.scripts.Action.{Action}
use Rattle.script_lang.specs.declared.scripts.Action.TheVariants as action
use Rattle.script_lang.specs.declared.scripts.Phase.{Phase}
use Rattle.mount_log.specs.Procedures.{rank_in}
use Rattle.mount_log.specs.declared.logs.ReplyLine.{ReplyLine}
use Rattle.mount_log.specs.declared.logs.SentLine.{SentLine}
use Rattle.mount_log.specs.declared.places.LineAt.{LineAt}
use Rattle.hub_tables.specs.Arming.{is_armable}
use Rattle.hub_tables.specs.PhaseControls.{ControlsState, no_controls, next_plain, first_left, with_controls, carried_by, drop_place, with_armed, next_count, with_count, next_armed, without_armed, with_sent}
use Rattle.hub_tables.specs.Sessions.{ProgressState, after_submission, after_replies, begun, behind}
use Rattle.hub_tables.specs.declared.controls.Armed.{Armed}
use Rattle.hub_tables.specs.declared.requests.Nth.{Nth}

pub record AgendaState : Type 0 where
  pub progress : ProgressState
  pub controls : ControlsState
  pub internal : Bool
  pub owed : ℕ

-- before the first phase of a script
abbrev pub new_agenda : AgendaState
new_agenda = record { progress = record { phase = 0; ready = []; unanswered = 0 }; controls = no_controls; internal = false; owed = 0 }

-- ---- what is due

-- whether each call of the phase is answered, no internal call is under way and no output is owed; so nothing is left but controls,
-- where no task is ready
abbrev pub is_quiet : AgendaState → Bool → Bool
is_quiet a idle = (a.progress.unanswered == 0) && (not a.internal && ((a.owed == 0) && idle))

abbrev pub where_true : {T : Type 0} → Bool → Option T → Option T
where_true true found = found
where_true false found = None

-- the next control without a condition, where the one before it is finished
abbrev pub plain_due : AgendaState → Option Action
plain_due a = where_true (not a.internal) (next_plain a.controls)

-- the first control that is left, where nothing else is
abbrev pub rest_due : AgendaState → Bool → Option Action
rest_due a idle = where_true (is_quiet a idle) (first_left a.controls)

-- whether each of so many phases has ended, and nothing is left
abbrev pub is_over : AgendaState → ℕ → Bool → Bool
is_over a phases idle = not (nat_lt a.progress.phase phases) && is_quiet a idle

-- ---- an event begins

abbrev pub with_submission : AgendaState → ℕ → AgendaState
with_submission a session = record a { progress = after_submission a.progress session }

-- an output has arrived; of some an output was owed
abbrev pub with_output : AgendaState → Bool → AgendaState
with_output a due = record a { owed = a.owed - (if due then 1 else 0) }

-- an action is carried out, and with it the control that is due and has this action; a heal or a switch begins an internal call
abbrev pub with_action : AgendaState → Action → Bool → AgendaState
with_action a action idle = record a {
  controls = drop_place a.controls (carried_by a.controls action (not a.internal) (is_quiet a idle));
  internal = is_great_action action || a.internal;
}

abbrev pub with_arm : AgendaState → ℕ → Proc → ℕ → Action → AgendaState
with_arm a brick p count action = record a { controls = with_armed a.controls brick p count action }

-- ---- an event ends

-- the actions that are armed for a request are taken, one after another, so many at most
abbrev pub without_armed_of : ControlsState → Nth → ℕ → ControlsState
without_armed_of c request zero = c
without_armed_of c request (suc more) = if is_some (next_armed c request) then without_armed_of (without_armed c request) request more else c

-- the next request of a procedure is sent to a brick, behind what is armed for it; the controls that wait for it have come
abbrev pub with_request : ControlsState → ℕ → ℕ → ControlsState
with_request c brick p =
    let request : Nth = record { brick = brick; proc = p; count = next_count c brick p } in
    with_sent (without_armed_of (with_count c brick p) request (length c.armed)) request

abbrev pub controls_by : ControlsState → ℕ → Option ℕ → ControlsState
controls_by c brick None = c
controls_by c brick (Some p) = with_request c brick p

-- what the inputs that are sent make of the controls: of these only the requests do anything
abbrev pub controls_after : ControlsState → List SentLine → ControlsState
controls_after c [] = c
controls_after c (line ∷ lines) = controls_after (controls_by c line.brick (rank_in line.bytes)) lines

-- an armed action as an input: a Down, or a fault
abbrev pub armed_line : ℕ → Action → List SentLine
armed_line event (action.Down brick serve) = record { event = event; brick = brick; bytes = input_text (input.Down serve) } ∷ []
armed_line event (action.Fault brick p number) = if is_armable brick (action.Fault brick p number) then record { event = event; brick = brick; bytes = input_text (input.FaultAt p number) } ∷ [] else []
armed_line event (action.Up brick) = []
armed_line event (action.Cut brick) = []
armed_line event action.Heal = []
armed_line event (action.Switch volfile) = []

abbrev pub with_armed_line : ℕ → Option Armed → List SentLine → List SentLine
with_armed_line event None rest = []
with_armed_line event (Some armed) rest = armed_line event armed.action ++ rest

-- what is armed for a request, so many actions at most
abbrev pub armed_lines : ℕ → ControlsState → Nth → ℕ → List SentLine
armed_lines event c request zero = []
armed_lines event c request (suc more) = with_armed_line event (next_armed c request) (armed_lines event (without_armed c request) request more)

abbrev pub lines_before : ControlsState → SentLine → Option ℕ → List SentLine
lines_before c line None = []
lines_before c line (Some p) = armed_lines line.event (with_count c line.brick p) (record { brick = line.brick; proc = p; count = next_count c line.brick p }) (length c.armed)

-- the inputs that go out for these, each request directly behind what is armed for it
abbrev pub outgoing : ControlsState → List SentLine → List SentLine
outgoing c [] = []
outgoing c (line ∷ lines) = lines_before c line (rank_in line.bytes) ++ line ∷ outgoing (controls_by c line.brick (rank_in line.bytes)) lines

abbrev pub is_kind : ℕ → List ℕ → Bool
is_kind kind bytes = pointwise ◌==◌ (take 4 bytes) (0 ∷ 0 ∷ 0 ∷ kind ∷ [])

-- whether a brick owes an output for an input: for a request, a Down and an Up
abbrev pub is_owed_for : List ℕ → Bool
is_owed_for bytes = is_some (rank_in bytes) || (is_kind 1 bytes || is_kind 2 bytes)

-- how many outputs are owed for these inputs
abbrev pub owed_by : List SentLine → ℕ
owed_by [] = 0
owed_by (line ∷ lines) = (if is_owed_for line.bytes then 1 else 0) + owed_by lines

-- what the inputs that an event sends make of it
abbrev pub with_sends : AgendaState → List SentLine → AgendaState
with_sends a sent = record a { controls = controls_after a.controls sent; owed = a.owed + owed_by sent }

-- what the replies that an event gives make of it, and whether the internal call is answered
abbrev pub with_replies : (ℕ → Option LineAt) → AgendaState → List ReplyLine → Bool → AgendaState
with_replies next a replies answered = record a { progress = after_replies next a.progress replies; internal = not answered && a.internal }

-- ---- phases

abbrev pub begun_by : (ℕ → Option LineAt) → AgendaState → Option Phase → AgendaState
begun_by next a None = record a { controls = no_controls }
begun_by next a (Some phase) = record a { progress = begun next a.progress phase; controls = with_controls no_controls 0 phase.controls }

-- the current phase begins; behind the last one there are no controls
abbrev pub with_phase : (ℕ → Option LineAt) → List Phase → AgendaState → AgendaState
with_phase next phases a = begun_by next a (slice_get phases a.progress.phase)

abbrev pub has_ended : List Phase → Bool → AgendaState → Bool
has_ended phases idle a = nat_lt a.progress.phase (length phases) && (is_quiet a idle && is_none (first_left a.controls))

-- the phases that have nothing left end, so many at most, and the next one begins
abbrev pub moved_on : (ℕ → Option LineAt) → List Phase → Bool → ℕ → AgendaState → AgendaState
moved_on next phases idle zero a = a
moved_on next phases idle (suc more) a =
    if has_ended phases idle a then moved_on next phases idle more (with_phase next phases (record a { progress = behind a.progress })) else a

-- the agenda after an event, of what the event has begun with
abbrev pub next_agenda : (ℕ → Option LineAt) → List Phase → Bool → List ReplyLine → List SentLine → Bool → AgendaState → AgendaState
next_agenda next phases idle replies sent answered a = moved_on next phases idle (length phases) (with_replies next (with_sends a sent) replies answered)
