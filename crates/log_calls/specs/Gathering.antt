-- The calls that events submit, gathered one event after another.
use Rattle.std.specs.Prelude.{◌≡◌, ℕ, List, [], ◌∷◌, ◌++◌, Option, Some, None, length, map, take, drop}
use Rattle.fop_types.specs.Calls.{Submission}
use Rattle.script_lang.specs.declared.scripts.Script.{Script}
use Rattle.mount_log.specs.Submissions.{submissions_from}
use Rattle.mount_log.specs.declared.logs.HubEvent.{HubEvent}
use Rattle.mount_log.specs.declared.places.LineAt.{LineAt}
use Rattle.log_calls.specs.Events.{HaveLeft, Submits, submit_events}
use Rattle.log_calls.specs.declared.calls.Gathered.{Gathered}

abbrev pub lines_left : Gathered → List (List LineAt)
lines_left g = map (λ q. q.items) g.queues.items

-- a session submits its next line in the event of this number
pub record GathersCall (script : Script) (session number : ℕ) (old new : Gathered) : Type 0 where
  pub s : Submission
  pub submits : Submits script (lines_left old) session s (lines_left new)
  pub calls : new.calls.items ≡ old.calls.items ++ s ∷ []
  pub numbers : new.numbers.items ≡ old.numbers.items ++ number ∷ []

abbrev pub Gathers : Script → Option ℕ → ℕ → Gathered → Gathered → Type 0
Gathers script None number old new = new ≡ old
Gathers script (Some session) number old new = GathersCall script session number old new

-- what comes of the first events, so many of them
pub record HasGathered (script : Script) (events : List HubEvent) (at : ℕ) (g : Gathered) : Type 0 where
  pub left : HaveLeft script (take at events) (lines_left g)
  pub calls : g.calls.items ++ submissions_from script (take at events) (drop at events) ≡ submissions_from script [] events
  pub numbers : g.numbers.items ++ submit_events at (drop at events) ≡ submit_events 0 events
  pub long : length g.numbers.items ≡ length g.calls.items
