-- The turns of sessions: each submits its lines in their order in the script, and one call at a time.
use Rattle.std.specs.Prelude.{◌≡◌, ℕ, ◌+◌, ◌<◌, ◌≤◌, Some, slice_get, take}
use Rattle.script_lang.specs.declared.scripts.CallLine.{CallLine}
use Rattle.script_lang.specs.declared.scripts.Script.{Script}
use Rattle.mount_log.specs.Logs.{submits_in}
use Rattle.mount_log.specs.Submissions.{session_line, submits_of}
use Rattle.mount_log.specs.declared.logs.HubEvent.TheVariants as logged
use Rattle.mount_log.specs.declared.logs.Log.{Log}
use Rattle.mount_log.specs.declared.logs.ReplyLine.{ReplyLine}

-- a session's next line is submitted, with its number in the script
pub record IsNextLine (script : Script) (log : Log) (k session line : ℕ) : Type 0 where
  pub there : CallLine
  pub next : session_line script session (submits_of session (take k log.events)) ≡ Some there
  pub number : line ≡ there.line

abbrev pub AreInOrder : Script → Log → Type 0
AreInOrder script log = (k session line : ℕ) → slice_get log.events k ≡ Some (logged.Submit session line) → IsNextLine script log k session line

-- a call has a reply by this event
pub record IsRepliedBy (log : Log) (call number : ℕ) : Type 0 where
  pub place : ℕ
  pub reply : ReplyLine
  pub there : slice_get log.replies place ≡ Some reply
  pub same_call : reply.call ≡ call
  pub by : reply.event ≤ number

-- the number of the call that is submitted at a place of the events
abbrev pub call_number : Log → ℕ → ℕ
call_number log place = submits_in (take place log.events) + 1

-- when a session submits a call, each of its earlier calls was replied to in an event before
abbrev pub AreAlone : Log → Type 0
AreAlone log = (j k session earlier line : ℕ) → j < k → slice_get log.events j ≡ Some (logged.Submit session earlier) → slice_get log.events k ≡ Some (logged.Submit session line) → IsRepliedBy log (call_number log j) k
