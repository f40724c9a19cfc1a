-- Notes of a run as functions: the events in which a control was armed and carried out, and the last event of a phase.
use Rattle.std.specs.Prelude.{◌≡◌, ℕ, ◌+◌, ◌-◌, ◌<◌, ◌≤◌, List, [], Option, None, Some, slice_get, slice_index_or}
use Rattle.mount_log.specs.Phases.{Course, begun_at}
use Rattle.run_audit.specs.declared.run_notes.Carried.{Carried}
use Rattle.run_audit.specs.declared.run_notes.ControlAt.{ControlAt}
use Rattle.run_audit.specs.declared.run_notes.RunNotes.{RunNotes}

-- ---- controls

abbrev pub event_in : Option Carried → ℕ
event_in None = 0
event_in (Some how) = how.event

abbrev pub armed_in : Option Carried → ℕ
armed_in None = 0
armed_in (Some how) = how.armed

abbrev pub sent_in : Option Carried → Option ℕ
sent_in None = None
sent_in (Some how) = how.sent

abbrev pub among : Option (List Carried) → List Carried
among None = []
among (Some carried) = carried

-- how the control at a place of a phase was carried out
abbrev pub how_at : List (List Carried) → ℕ → ℕ → Option Carried
how_at carried phase at = slice_get (among (slice_get carried phase)) at

abbrev pub carried_at : List (List Carried) → ℕ → ℕ → ℕ
carried_at carried phase at = event_in (how_at carried phase at)

abbrev pub armed_at : List (List Carried) → ℕ → ℕ → ℕ
armed_at carried phase at = armed_in (how_at carried phase at)

abbrev pub sent_at : List (List Carried) → ℕ → ℕ → Option ℕ
sent_at carried phase at = sent_in (how_at carried phase at)

-- the control that is noted for an event, or for a line that was sent
abbrev pub noted_for : RunNotes → ℕ → Option ℕ → Option ControlAt
noted_for notes number None = slice_get notes.by_event (number - 1)
noted_for notes number (Some place) = slice_get notes.by_line place

-- ---- phases

-- the last event of a phase; of one that is not there, the last event of all
abbrev pub ended_at : List ℕ → ℕ → ℕ → ℕ
ended_at ended last phase = slice_index_or ended phase last

-- the last event before a phase
abbrev pub begun : List ℕ → ℕ → ℕ → ℕ
begun ended last phase = begun_at (ended_at ended last) phase

-- no phase ends before an earlier one
abbrev pub AreRising : List ℕ → ℕ → Type 0
AreRising ended last = (phase : ℕ) → ended_at ended last phase ≤ ended_at ended last (phase + 1)

-- an event is one of a phase
pub record IsWithin (ended : List ℕ) (last phase number : ℕ) : Type 0 where
  pub behind : begun ended last phase < number
  pub until : number ≤ ended_at ended last phase

-- ---- the course that the notes say

abbrev pub course_of : RunNotes → ℕ → Course
course_of notes last = record { ended_at = ended_at notes.ended last; carried_at = carried_at notes.carried; sent_at = sent_at notes.carried; armed_at = armed_at notes.carried }
