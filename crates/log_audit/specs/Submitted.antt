-- What sessions have submitted, and what they have left.
use Rattle.std.specs.Prelude.{◌≡◌, ℕ, List, Option, Some, slice_get, take, drop}
use Rattle.script_lang.specs.declared.scripts.CallLine.{CallLine}
use Rattle.script_lang.specs.declared.scripts.Script.{Script}
use Rattle.mount_log.specs.Lines.{queue_of, places_from}
use Rattle.mount_log.specs.Submissions.{session_line, submits_of}
use Rattle.mount_log.specs.declared.logs.HubEvent.{HubEvent}
use Rattle.mount_log.specs.declared.logs.HubEvent.TheVariants as logged
use Rattle.mount_log.specs.declared.places.LineAt.{LineAt}

-- a line with this number is there
pub record HasNumber (o : Option CallLine) (number : ℕ) : Type 0 where
  pub there : CallLine
  pub is : o ≡ Some there
  pub number_is : number ≡ there.line

-- among these events each submission is of its session's next line
abbrev pub AreNext : Script → List HubEvent → Type 0
AreNext script events =
    (k session line : ℕ) → slice_get events k ≡ Some (logged.Submit session line) → HasNumber (session_line script session (submits_of session (take k events))) line

-- each session has left what it did not submit in these events
abbrev pub HaveLeft : Script → List HubEvent → List (List LineAt) → Type 0
HaveLeft script events queues = (session : ℕ) → queue_of queues session ≡ drop (submits_of session events) (places_from session 0 script.phases)
