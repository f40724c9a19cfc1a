-- The calls of a log by their numbers.
use Rattle.std.specs.Prelude.{◌≡◌, ℕ, ◌+◌, ◌-◌, ◌==◌, List, Option, None, Some, length, slice_get, take, if◌then◌else◌}
use Rattle.script_lang.specs.declared.scripts.Script.{Script}
use Rattle.mount_log.specs.Graphs.{switches_in}
use Rattle.mount_log.specs.Logs.{submits_in}
use Rattle.mount_log.specs.Submissions.{place_of_line, submits_of}
use Rattle.mount_log.specs.declared.logs.HubEvent.TheVariants as logged
use Rattle.mount_log.specs.declared.logs.Log.{Log}
use Rattle.mount_log.specs.declared.places.LineAt.{LineAt}
use Rattle.log_audit.specs.Submitted.{HaveLeft}
use Rattle.log_audit.specs.declared.calls_made.CallMade.{CallMade}

-- the call that is submitted behind n others
pub record IsCallAt (script : Script) (log : Log) (n : ℕ) (call : CallMade) : Type 0 where
  pub place : ℕ
  pub at : LineAt
  pub event_is : call.event ≡ place + 1
  pub there : slice_get log.events place ≡ Some (logged.Submit call.session call.line)
  pub line_at : place_of_line script call.session (submits_of call.session (take place log.events)) ≡ Some at
  pub phase_is : at.phase ≡ call.phase
  pub number_is : submits_in (take place log.events) ≡ n
  pub switches_are : call.switches ≡ length (switches_in (take place log.events))

-- a session submits a call, and has no line left for it
pub record SubmitsTooMany (script : Script) (log : Log) : Type 0 where
  pub place : ℕ
  pub session : ℕ
  pub line : ℕ
  pub there : slice_get log.events place ≡ Some (logged.Submit session line)
  pub none_left : place_of_line script session (submits_of session (take place log.events)) ≡ None

-- these are the calls of the log
pub record AreCalls (script : Script) (log : Log) (calls : List CallMade) : Type 0 where
  pub each : (n : ℕ) (call : CallMade) → slice_get calls n ≡ Some call → IsCallAt script log n call
  pub many : length calls ≡ submits_in log.events

-- the call of a number, from 1
abbrev pub call_by : List CallMade → ℕ → Option CallMade
call_by calls number = if number == 0 then None else slice_get calls (number - 1)

-- ---- the calls of the first events

-- the calls of the first events; each session has left what it did not submit in them
pub record AreGathered (script : Script) (log : Log) (passed : ℕ) (queues : List (List LineAt)) (calls : List CallMade) : Type 0 where
  pub left : HaveLeft script (take passed log.events) queues
  pub each : (n : ℕ) (call : CallMade) → slice_get calls n ≡ Some call → IsCallAt script log n call
  pub many : length calls ≡ submits_in (take passed log.events)
