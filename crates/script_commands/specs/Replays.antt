-- What a replay says of a text: where in it the report begins; that the report is lawful, or the first entry or call that is
-- not; or, of a text that it does not judge, the one fault line.
use Rattle.std.specs.Prelude.{◌≡◌, ◌≢◌, ℕ, ◌+◌, ◌<◌, ◌≤◌, List, ◌∷◌, ◌++◌, Ok, Err, codes, length, take, drop}
use Rattle.std.specs.Fmt.{decimal}
use Rattle.std.specs.List.{AllByRecursion}
use Rattle.volfile.specs.TextLines.{lines_of}
use Rattle.report_text.specs.ReportText.{report_text}
use Rattle.report_text.specs.declared.report.Report.{Report}
use Rattle.report_reader.specs.Readings.{IsRefusedAt}
use Rattle.report_reader.specs.Reports.{IsReport}
use Rattle.history_replay.specs.Reports.{IsLawfulReport, last_or}
use Rattle.history_replay.specs.declared.judging.Verdict.{Verdict}
use Rattle.history_replay.specs.declared.judging.Verdict.TheVariants as judged
use Rattle.script_lang.specs.declared.scripts.Script.{Script}
use Rattle.script_commands.specs.Plans.{accepted}
use Rattle.script_commands.specs.Refusals.{fault_of, fault_text}
use Rattle.script_commands.specs.declared.plans.Accepted.{Accepted}
use Rattle.script_commands.specs.declared.refusals.Refusal.{Refusal}
use Rattle.script_commands.specs.declared.replaying.Replayed.{Replayed}
use Rattle.script_commands.specs.declared.replaying.Replayed.TheVariants as replayed

-- ---- where the report begins

-- the line that begins a report
abbrev pub report_line : List ℕ
report_line = codes "report 1"

-- bytes that end with a line: there are none, or the last is a line feed
abbrev pub AreWholeLines : List ℕ → Type 0
AreWholeLines bytes = last_or 10 bytes ≡ 10

-- no line of the text is `report 1`, and it has so many
pub record HasNoReport (text : List ℕ) (lines : ℕ) : Type 0 where
  pub none : AllByRecursion (λ line. line ≢ report_line) (lines_of text)
  pub count : length (lines_of text) ≡ lines

-- the first line that is `report 1` begins at this byte, behind so many lines
pub record IsReportAt (text : List ℕ) (at lines : ℕ) : Type 0 where
  pub whole : AreWholeLines (take at text)
  pub before : HasNoReport (take at text) lines
  pub behind : List (List ℕ)
  pub here : lines_of (drop at text) ≡ report_line ∷ behind

-- ---- a text that is judged

abbrev pub verdict_text : Verdict → List ℕ
verdict_text judged.Lawful = codes "lawful\n"
verdict_text (judged.Entry number) = codes "unlawful " ++ codes "entry " ++ decimal number ++ codes "\n"
verdict_text (judged.Call number) = codes "unlawful " ++ codes "call " ++ decimal number ++ codes "\n"

abbrev pub status_of : Verdict → ℕ
status_of judged.Lawful = 0
status_of (judged.Entry number) = 6
status_of (judged.Call number) = 6

-- a verdict of a report of a script, with its line and status: `lawful` only where the report is
pub record IsVerdictOn (script : Script) (report : Report) (line : List ℕ) (status : ℕ) : Type 0 where
  pub verdict : Verdict
  pub lawful : verdict ≡ judged.Lawful → IsLawfulReport script report
  pub line_is : line ≡ verdict_text verdict
  pub status_is : status ≡ status_of verdict

-- a verdict of the report of which the bytes are the text
pub record IsVerdictOnText (script : Script) (bytes line : List ℕ) (status : ℕ) : Type 0 where
  pub report : Report
  pub legal : IsReport report
  pub is_text : bytes ≡ report_text report
  pub verdict : IsVerdictOn script report line status

-- a verdict of a text: the script before the report is accepted, and the bytes from there on are the text of a report
pub record IsVerdictOf (text line : List ℕ) (status : ℕ) : Type 0 where
  pub few : length text ≤ 4294967295
  pub at : ℕ
  pub lines : ℕ
  pub report : IsReportAt text at lines
  pub read : Accepted
  pub script : accepted (take at text) ≡ Ok read
  pub verdict : IsVerdictOnText read.script (drop at text) line status

-- ---- a text that is not judged

-- the script before the report is refused, for this as the first
pub record IsScriptRefused (text : List ℕ) (refusal : Refusal) : Type 0 where
  pub at : ℕ
  pub lines : ℕ
  pub report : IsReportAt text at lines
  pub refused : accepted (take at text) ≡ Err refusal

-- The script is accepted, and the bytes behind it are the text of no report. The line is counted in the whole text: it is the
-- one where those bytes are refused.
pub record IsReportRefused (text : List ℕ) (line : ℕ) : Type 0 where
  pub at : ℕ
  pub lines : ℕ
  pub report : IsReportAt text at lines
  pub read : Accepted
  pub script : accepted (take at text) ≡ Ok read
  pub own_line : ℕ
  pub refused : IsRefusedAt own_line (drop at text)
  pub line_is : line ≡ lines + own_line

-- The fault line of a text. The four causes and a verdict exclude each other.
pub data IsReplayFault (text fault : List ℕ) : Type 0 where
  TooLong : 4294967295 < length text → fault ≡ fault_of 0 (codes "TooLong") → IsReplayFault text fault
  NoReport : (lines : ℕ) → length text ≤ 4294967295 → HasNoReport text lines → fault ≡ fault_of lines (codes "NoReport") → IsReplayFault text fault
  BadScript : (refusal : Refusal) → length text ≤ 4294967295 → IsScriptRefused text refusal → fault ≡ fault_text refusal → IsReplayFault text fault
  BadReport : (line : ℕ) → length text ≤ 4294967295 → IsReportRefused text line → fault ≡ fault_of line (codes "BadReport") → IsReplayFault text fault

-- ---- what comes of a replay

-- a verdict with its line and status, or why there is none
abbrev pub IsSaying : List ℕ → Replayed → Type 0
IsSaying text (replayed.Says line status) = IsVerdictOf text line.items status
IsSaying text (replayed.NoReport lines) = HasNoReport text lines
IsSaying text (replayed.Refused refusal) = IsScriptRefused text refusal
IsSaying text (replayed.BadReport line) = IsReportRefused text line
IsSaying text replayed.Mem = Unit {0}
