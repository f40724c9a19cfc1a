-- The trace that a report shows, as the code makes it: calls and history first, then bounds, then replies.
use Rattle.std.specs.Prelude.{◌≡◌, ℕ, List, length, map, replicate}
use Rattle.fop_types.specs.Calls.{Submission}
use Rattle.fop_types.specs.History.{Reply}
use Rattle.fop_types.specs.declared.history.Entry.{Entry}
use Rattle.report_text.specs.declared.calls.ReportCall.{ReportCall}
use Rattle.script_lang.specs.declared.scripts.CallLine.{CallLine}
use Rattle.history_replay.specs.Reports.{with_answers, AreShown, since_from}
use Rattle.history_replay.specs.Traces.{Trace, IsLawfulTrace}

abbrev pub replied : Trace → List Reply → Trace
replied t replies = record t { replies = replies }

-- the trace is lawful with replies that the calls show
pub record IsLawfulWithReplies (calls : List ReportCall) (t : Trace) : Type 0 where
  pub replies : List Reply
  pub shown : AreShown (with_answers calls) replies
  pub lawful : IsLawfulTrace (replied t replies)

-- a trace of these calls and this history is, with the bounds that the calls show
pub record IsLawfulOf (lines : List CallLine) (calls : List ReportCall) (submissions : List Submission) (history : List Entry) : Type 0 where
  pub trace : Trace
  pub calls_are : trace.calls ≡ submissions
  pub history_is : trace.history ≡ history
  pub submitted : trace.submitted ≡ replicate (length lines) 0
  pub since : trace.since ≡ since_from (replicate 256 0) (map (λ l. l.session) lines) (map (λ c. c.places) calls)
  pub until : trace.until ≡ replicate (length lines) (length history)
  pub lawful : IsLawfulWithReplies calls trace
