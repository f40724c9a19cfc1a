-- When a report is lawful for a script: its calls are those of the script, and its answers are those of one plain file system
-- at the places that it writes, after the changes of its history. An I/O error is no answer of the file system: a report has
-- one in three forms alone, which begin with the three causes that there are, and its places are those of lookups that found
-- their names.
use Rattle.std.specs.Prelude.{◌≡◌, ℕ, ◌+◌, ◌<◌, ◌==◌, ◌&&◌, Bool, true, false, List, [], ◌∷◌, Option, Some, None, length, take, drop, map, filter, not, get_or, replicate, slice_get, ◌⊎◌}
use Rattle.std.specs.List.{slice_set}
use Rattle.fop_types.specs.Calls.{Submission}
use Rattle.fop_types.specs.History.{Reply}
use Rattle.fop_types.specs.Replies.{IsIo}
use Rattle.fop_types.specs.declared.answers.Answer.{Answer}
use Rattle.fop_types.specs.declared.answers.Answer.TheVariants as answers
use Rattle.fop_types.specs.declared.cells.Kind.{Kind}
use Rattle.fop_types.specs.declared.contents.Item.{Item}
use Rattle.fop_types.specs.declared.history.Entry.{Entry}
use Rattle.report_text.specs.declared.answers.ReportAnswer.{ReportAnswer}
use Rattle.report_text.specs.declared.answers.ReportAnswer.TheVariants as shown
use Rattle.report_text.specs.declared.calls.ReportCall.{ReportCall}
use Rattle.report_text.specs.declared.report.Report.{Report}
use Rattle.script_lang.specs.declared.scripts.CallLine.{CallLine}
use Rattle.script_lang.specs.declared.scripts.Phase.{Phase}
use Rattle.script_lang.specs.declared.scripts.Script.{Script}
use Rattle.history_replay.specs.Traces.{Trace, IsLawfulTrace}

-- ---- the calls

-- the lines of a session among these, in their order
abbrev pub of_session : ℕ → List CallLine → List CallLine
of_session session lines = filter (λ l. l.session == session) lines

-- the call of the report with this number is this line's
pub record IsCallOf (script : Script) (number : ℕ) (line : CallLine) (c : ReportCall) : Type 0 where
  pub number_is : c.call ≡ number
  pub line_is : c.line ≡ line.line
  pub session_is : slice_get script.sessions line.session ≡ Some c.session

abbrev pub AreCallsOf : Script → ℕ → List CallLine → List ReportCall → Type 0
AreCallsOf script number [] [] = Unit {0}
AreCallsOf script number [] (c ∷ calls) = ⊥
AreCallsOf script number (line ∷ lines) [] = ⊥
AreCallsOf script number (line ∷ lines) (c ∷ calls) = IsCallOf script number line c × AreCallsOf script (number + 1) lines calls

-- These lines are the calls of a phase, each session's in their order. Sessions have numbers below 256.
abbrev pub AreTheseLines : List CallLine → List CallLine → Type 0
AreTheseLines lines calls = (session : ℕ) → session < 256 → of_session session lines ≡ of_session session calls

-- These lines are the calls of the phases, those of earlier phases first.
abbrev pub AreInPhases : List CallLine → List Phase → Type 0
AreInPhases lines [] = lines ≡ []
AreInPhases lines (phase ∷ phases) =
    AreTheseLines (take (length phase.calls) lines) phase.calls × AreInPhases (drop (length phase.calls) lines) phases

abbrev pub submission_of : CallLine → Submission
submission_of line = record { session = line.session; call = line.call }

-- ---- the answers

-- an item of a list shows its name and kind only
abbrev pub shown_item : Item → List ℕ × Kind
shown_item item = (item.name, item.kind)

abbrev pub ShowsItems : List (List ℕ × Kind) → Answer → Type 0
ShowsItems items (answers.List held) = items ≡ map shown_item held
ShowsItems items answers.Done = ⊥
ShowsItems items (answers.Count count) = ⊥
ShowsItems items (answers.Bytes bytes) = ⊥
ShowsItems items (answers.Stat kind mode size) = ⊥
ShowsItems items (answers.App error) = ⊥
ShowsItems items (answers.Io error) = ⊥

-- an answer as a report shows it: the empty list as the count 0, and an I/O error by its cause
abbrev pub Shows : ReportAnswer → Answer → Type 0
Shows shown.Done a = a ≡ answers.Done
Shows (shown.Count count) a = (a ≡ answers.Count count) ⊎ ((count ≡ 0) × (a ≡ answers.List []))
Shows (shown.Bytes bytes) a = a ≡ answers.Bytes bytes
Shows (shown.Stat kind mode size) a = a ≡ answers.Stat kind mode size
Shows (shown.List items) a = ShowsItems items a
Shows (shown.App error) a = a ≡ answers.App error
Shows (shown.Io cause) a = IsIo a

abbrev pub is_io_shown : ReportAnswer → Bool
is_io_shown shown.Done = false
is_io_shown (shown.Count count) = false
is_io_shown (shown.Bytes bytes) = false
is_io_shown (shown.Stat kind mode size) = false
is_io_shown (shown.List items) = false
is_io_shown (shown.App error) = false
is_io_shown (shown.Io cause) = true

-- A call that is answered by an I/O error and has no place says nothing of the file system: it has no reply here.
abbrev pub is_silent : ReportCall → Bool
is_silent c = is_io_shown c.answer && (length c.places == 0)

abbrev pub with_answers : List ReportCall → List ReportCall
with_answers calls = filter (λ c. not (is_silent c)) calls

pub record ShowsReply (c : ReportCall) (r : Reply) : Type 0 where
  pub call : r.call ≡ c.call
  pub places : r.places ≡ c.places
  pub answer : Shows c.answer r.answer

-- an answer of each call, which it shows, but of those that say nothing
abbrev pub IsAnswerShown : ReportCall → Option Answer → Type 0
IsAnswerShown c None = is_silent c ≡ true
IsAnswerShown c (Some a) = (is_silent c ≡ false) × Shows c.answer a

abbrev pub AreAnswersShown : List ReportCall → List (Option Answer) → Type 0
AreAnswersShown [] [] = Unit {0}
AreAnswersShown [] (a ∷ answers) = ⊥
AreAnswersShown (c ∷ calls) [] = ⊥
AreAnswersShown (c ∷ calls) (a ∷ answers) = IsAnswerShown c a × AreAnswersShown calls answers

-- the reply that a call shows, but of those that say nothing
abbrev pub IsReplyShown : ReportCall → Option Reply → Type 0
IsReplyShown c None = is_silent c ≡ true
IsReplyShown c (Some r) = (is_silent c ≡ false) × ShowsReply c r

abbrev pub AreShown : List ReportCall → List Reply → Type 0
AreShown [] [] = Unit {0}
AreShown [] (r ∷ replies) = ⊥
AreShown (c ∷ calls) [] = ⊥
AreShown (c ∷ calls) (r ∷ replies) = ShowsReply c r × AreShown calls replies

-- ---- bounds

abbrev pub last_or : ℕ → List ℕ → ℕ
last_or before [] = before
last_or before (place ∷ places) = last_or place places

-- A report does not say when a call was submitted, so its entries are anywhere behind its lookups. But no place of a call is
-- below the last place of the nearest call of its session before it that has one. `reached` has these places by session;
-- `sessions` are those of the calls.
abbrev pub since_from : List ℕ → List ℕ → List (List ℕ) → List ℕ
since_from reached [] places = []
since_from reached (session ∷ sessions) [] = []
since_from reached (session ∷ sessions) (ps ∷ places) =
    get_or reached session 0 ∷ since_from (slice_set reached session (last_or (get_or reached session 0) ps)) sessions places

-- ---- the report

abbrev pub entry_shown : ℕ × ℕ → Entry
entry_shown pair = record { call = pair.0; part = pair.1 }

-- the trace that the calls and the history of a report show, the calls being those of these lines
pub record IsTraceOf (lines : List CallLine) (calls : List ReportCall) (history : List (ℕ × ℕ)) (t : Trace) : Type 0 where
  pub calls_are : t.calls ≡ map submission_of lines
  pub replies : AreShown (with_answers calls) t.replies
  pub history_is : t.history ≡ map entry_shown history
  pub submitted : t.submitted ≡ replicate (length lines) 0
  pub since : t.since ≡ since_from (replicate 256 0) (map (λ l. l.session) lines) (map (λ c. c.places) calls)
  pub until : t.until ≡ replicate (length lines) (length history)

-- one legal history, and lawful replies
pub record IsLawfulFor (lines : List CallLine) (calls : List ReportCall) (history : List (ℕ × ℕ)) : Type 0 where
  pub trace : Trace
  pub shows : IsTraceOf lines calls history trace
  pub lawful : IsLawfulTrace trace

pub record IsLawfulReport (script : Script) (report : Report) : Type 0 where
  -- the line of each call
  pub lines : List CallLine
  pub each : AreCallsOf script 1 lines report.calls
  pub in_phases : AreInPhases lines script.phases
  pub answers : IsLawfulFor lines report.calls report.history
