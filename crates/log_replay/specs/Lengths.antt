-- How long the history was at the submission and at the reply of each call, as lists with a number for each call.
use Rattle.std.specs.Prelude.{◌≡◌, ℕ, ◌+◌, List, map}
use Rattle.fop_types.specs.Calls.{Submission}
use Rattle.mount_log.specs.Submissions.{replies_of, count_below}
use Rattle.mount_log.specs.declared.logs.Log.{Log}
use Rattle.history_replay.specs.Traces.{Trace}
use Rattle.log_replay.specs.Events.{HasReplyEvents}

-- the trace of a log with these calls and lengths
abbrev pub trace_of : Log → List Submission → List ℕ → List ℕ → Trace
trace_of log calls since until = record { calls = calls; replies = replies_of log; history = log.history; submitted = since; since = since; until = until }

-- the lengths for so many calls, which these events submit
pub record HasLengths (log : Log) (events : List ℕ) (count : ℕ) (since until : List ℕ) : Type 0 where
  -- the events of the replies
  pub answered : List ℕ
  pub replied : HasReplyEvents count log.replies answered
  pub since_are : since ≡ map (λ n. count_below (n + 0) log.entered) events
  pub until_are : until ≡ map (λ n. count_below (n + 1) log.entered) answered
