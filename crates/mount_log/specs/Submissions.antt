-- What a log says of the calls: which were submitted, in what order, their replies, and how long the history was at the
-- submission and at the reply of each. Calls are numbered from 1 in the order of their submission.
use Rattle.std.specs.Prelude.{ℕ, ◌+◌, ◌==◌, zero, suc, nat_lt, List, [], ◌∷◌, ◌++◌, Option, Some, None, map, slice_get, if◌then◌else◌}
use Rattle.fop_types.specs.Calls.{Submission}
use Rattle.fop_types.specs.History.{Reply}
use Rattle.script_lang.specs.declared.scripts.CallLine.{CallLine}
use Rattle.script_lang.specs.declared.scripts.Script.{Script}
use Rattle.mount_log.specs.Lines.{line_of, places_from}
use Rattle.mount_log.specs.declared.logs.HubEvent.{HubEvent}
use Rattle.mount_log.specs.declared.logs.HubEvent.TheVariants as logged
use Rattle.mount_log.specs.declared.logs.Log.{Log}
use Rattle.mount_log.specs.declared.logs.ReplyLine.{ReplyLine}
use Rattle.mount_log.specs.declared.places.LineAt.{LineAt}

-- ---- the lines that were submitted

abbrev pub is_submit_of : ℕ → HubEvent → ℕ
is_submit_of session (logged.Submit at line) = if at == session then 1 else 0
is_submit_of session (logged.Arrive brick bytes) = 0
is_submit_of session (logged.Run graph task) = 0
is_submit_of session (logged.Act a) = 0
is_submit_of session (logged.Arm brick p count a) = 0

-- how many calls a session has submitted in these events
abbrev pub submits_of : ℕ → List HubEvent → ℕ
submits_of session [] = 0
submits_of session (e ∷ es) = is_submit_of session e + submits_of session es

-- the place in the script of a session's line, by how many the session has before it
abbrev pub place_of_line : Script → ℕ → ℕ → Option LineAt
place_of_line script session before = slice_get (places_from session 0 script.phases) before

abbrev pub line_by : Script → Option LineAt → Option CallLine
line_by script None = None
line_by script (Some at) = line_of script at

abbrev pub session_line : Script → ℕ → ℕ → Option CallLine
session_line script session before = line_by script (place_of_line script session before)

abbrev pub with_submission : ℕ → Option CallLine → List Submission → List Submission
with_submission session None rest = rest
with_submission session (Some line) rest = record { session = session; call = line.call } ∷ rest

abbrev pub submitted_by : Script → List HubEvent → HubEvent → List Submission → List Submission
submitted_by script before (logged.Submit session line) rest = with_submission session (session_line script session (submits_of session before)) rest
submitted_by script before (logged.Arrive brick bytes) rest = rest
submitted_by script before (logged.Run graph task) rest = rest
submitted_by script before (logged.Act a) rest = rest
submitted_by script before (logged.Arm brick p count a) rest = rest

-- the calls that these events submit, behind others
abbrev pub submissions_from : Script → List HubEvent → List HubEvent → List Submission
submissions_from script before [] = []
submissions_from script before (e ∷ es) = submitted_by script before e (submissions_from script (before ++ e ∷ []) es)

-- the calls of a log, by their numbers
abbrev pub submissions_of : Script → Log → List Submission
submissions_of script log = submissions_from script [] log.events

-- ---- replies, and the history at a moment

abbrev pub reply_of : ReplyLine → Reply
reply_of r = record { call = r.call; places = r.places; answer = r.answer }

abbrev pub replies_of : Log → List Reply
replies_of log = map reply_of log.replies

-- how many of these numbers are below a bound
abbrev pub count_below : ℕ → List ℕ → ℕ
count_below bound [] = 0
count_below bound (n ∷ numbers) = (if nat_lt n bound then 1 else 0) + count_below bound numbers

-- the number of the event that submits the call of this number, behind events of which the last has the number `last`; the
-- next one where there is none
abbrev pub submit_event : ℕ → List HubEvent → ℕ → ℕ
submit_event last [] number = last + 1
submit_event last (logged.Submit session line ∷ es) zero = last + 1
submit_event last (logged.Submit session line ∷ es) (suc zero) = last + 1
submit_event last (logged.Submit session line ∷ es) (suc (suc number)) = submit_event (last + 1) es (suc number)
submit_event last (logged.Arrive brick bytes ∷ es) number = submit_event (last + 1) es number
submit_event last (logged.Run graph task ∷ es) number = submit_event (last + 1) es number
submit_event last (logged.Act a ∷ es) number = submit_event (last + 1) es number
submit_event last (logged.Arm brick p count a ∷ es) number = submit_event (last + 1) es number

-- the number of the event of a call's submission
abbrev pub submitted_at : Log → ℕ → ℕ
submitted_at log number = submit_event 0 log.events number

abbrev pub event_of_reply : List ReplyLine → ℕ → ℕ
event_of_reply [] number = 0
event_of_reply (r ∷ rs) number = if r.call == number then r.event else event_of_reply rs number

-- the number of the event of a call's reply, 0 where it has none
abbrev pub replied_at : Log → ℕ → ℕ
replied_at log number = event_of_reply log.replies number

-- the length of the history at a call's submission, and at its reply
abbrev pub length_since : Log → ℕ → ℕ
length_since log number = count_below (submitted_at log number) log.entered

abbrev pub length_until : Log → ℕ → ℕ
length_until log number = count_below (replied_at log number + 1) log.entered
