-- The events of a log that submit calls, and the lines that sessions have left.
use Rattle.std.specs.Prelude.{◌≡◌, ℕ, ◌+◌, List, [], ◌∷◌, Option, Some, None, drop}
use Rattle.fop_types.specs.Calls.{Submission}
use Rattle.script_lang.specs.declared.scripts.CallLine.{CallLine}
use Rattle.script_lang.specs.declared.scripts.Script.{Script}
use Rattle.mount_log.specs.Lines.{line_of, queue_of, places_from, TakesLine}
use Rattle.mount_log.specs.Submissions.{submits_of}
use Rattle.mount_log.specs.declared.logs.HubEvent.{HubEvent}
use Rattle.mount_log.specs.declared.logs.HubEvent.TheVariants as logged
use Rattle.mount_log.specs.declared.places.LineAt.{LineAt}

-- each session has left what it did not submit in these events
abbrev pub HaveLeft : Script → List HubEvent → List (List LineAt) → Type 0
HaveLeft script events queues = (session : ℕ) → queue_of queues session ≡ drop (submits_of session events) (places_from session 0 script.phases)

-- a session submits its next line
pub record Submits (script : Script) (old : List (List LineAt)) (session : ℕ) (s : Submission) (new : List (List LineAt)) : Type 0 where
  pub at : LineAt
  pub takes : TakesLine old session at new
  pub line : CallLine
  pub there : line_of script at ≡ Some line
  pub call_is : s ≡ record { session = session; call = line.call }

-- the session that submits a call in an event, if one does
abbrev pub submitter : HubEvent → Option ℕ
submitter (logged.Submit session line) = Some session
submitter (logged.Arrive brick bytes) = None
submitter (logged.Run graph task) = None
submitter (logged.Act a) = None
submitter (logged.Arm brick p count a) = None

-- the numbers of the events that submit a call, behind events of which the last has the number `last`
abbrev pub submit_events : ℕ → List HubEvent → List ℕ
submit_events last [] = []
submit_events last (logged.Submit session line ∷ es) = (last + 1) ∷ submit_events (last + 1) es
submit_events last (logged.Arrive brick bytes ∷ es) = submit_events (last + 1) es
submit_events last (logged.Run graph task ∷ es) = submit_events (last + 1) es
submit_events last (logged.Act a ∷ es) = submit_events (last + 1) es
submit_events last (logged.Arm brick p count a ∷ es) = submit_events (last + 1) es
