-- What an audit of the moments of controls finds.
use Rattle.std.specs.Prelude.{◌≡◌, ◌≢◌, ℕ, ◌+◌, ◌-◌, ◌<◌, ◌≤◌, ◌⊎◌, List, Option, None, Some, length, slice_get}
use Rattle.fop_types.specs.declared.messages.Proc.{Proc}
use Rattle.script_lang.specs.declared.scripts.ControlLine.{ControlLine}
use Rattle.script_lang.specs.declared.scripts.Phase.{Phase}
use Rattle.script_lang.specs.declared.scripts.Script.{Script}
use Rattle.script_lang.specs.declared.scripts.When.TheVariants as moment
use Rattle.mount_log.specs.Controls.{control_at, HasCome, IsTimely}
use Rattle.mount_log.specs.Phases.{Course}
use Rattle.mount_log.specs.declared.logs.Log.{Log}
use Rattle.run_audit.specs.Noted.{among, how_at, course_of, event_in}
use Rattle.run_audit.specs.declared.run_notes.Carried.{Carried}
use Rattle.run_audit.specs.declared.run_notes.RunNotes.{RunNotes}

-- the line at a place is counted, as another request of its procedure than the one of this number
pub record IsOther (nth : List ℕ) (place count : ℕ) : Type 0 where
  pub number : ℕ
  pub there : slice_get nth place ≡ Some number
  pub differs : number ≢ count

-- a control follows a request
pub record IsAfter (c : ControlLine) : Type 0 where
  pub brick : ℕ
  pub proc : Proc
  pub count : ℕ
  pub when_is : c.when ≡ moment.After brick proc count

-- among the first n controls of a phase, those before a place and those without a condition were carried out before an event
abbrev pub AreEarlier : List ControlLine → List Carried → ℕ → ℕ → ℕ → Type 0
AreEarlier controls carried at number n =
    (j : ℕ) (c : ControlLine) → j < n → slice_get controls j ≡ Some c → (j < at) ⊎ (c.when ≡ moment.Now) → event_in (slice_get carried j) < number

-- the request has come, as the line at this place
pub record HasComeAt (script : Script) (log : Log) (course : Course) (phase number brick : ℕ) (p : Proc) (count place : ℕ) : Type 0 where
  pub come : HasCome script log course phase number brick p count
  pub at : come.place ≡ place

-- the place of a request that a control follows: with one, the request has come as the line there; without one, it has not come
abbrev pub IsRequestPlace : Script → Log → Course → ℕ → ℕ → ℕ → Proc → ℕ → Option ℕ → Type 0
IsRequestPlace script log course phase number brick p count None = HasCome script log course phase number brick p count → ⊥
IsRequestPlace script log course phase number brick p count (Some place) = HasComeAt script log course phase number brick p count place

abbrev pub IsRequestNoted : Script → Log → Course → ℕ → ℕ → ControlLine → Option ℕ → Type 0
IsRequestNoted script log course phase number c place = (brick count : ℕ) (p : Proc) → c.when ≡ moment.After brick p count → IsRequestPlace script log course phase number brick p count place

-- the notes have the places of these requests
abbrev pub AreRequestsNoted : Script → Log → RunNotes → Type 0
AreRequestsNoted script log notes =
    (phase at : ℕ) (c : ControlLine) (how : Carried) → control_at script phase at ≡ Some c → how_at notes.carried phase at ≡ Some how → how.sent ≡ None
    → IsRequestNoted script log (course_of notes (length log.events)) phase how.event c how.request

-- a control that was carried out by an event was so in its moment
abbrev pub IsHowTimely : Script → Log → RunNotes → ℕ → ℕ → ControlLine → Option Carried → Type 0
IsHowTimely script log notes phase at c None = Unit {0}
IsHowTimely script log notes phase at c (Some how) = how.sent ≡ None → IsTimely script log (course_of notes (length log.events)) phase at how.event c

-- each control of a phase that was carried out by an event was so in its moment
abbrev pub ArePhaseTimely : Script → Log → RunNotes → ℕ → List ControlLine → Type 0
ArePhaseTimely script log notes phase controls =
    (at : ℕ) (c : ControlLine) → slice_get controls at ≡ Some c → IsHowTimely script log notes phase at c (slice_get (among (slice_get notes.carried phase)) at)

abbrev pub AreAllTimely : Script → Log → RunNotes → Type 0
AreAllTimely script log notes = (k : ℕ) (phase : Phase) → slice_get script.phases k ≡ Some phase → ArePhaseTimely script log notes k phase.controls
