-- What the bytes of a report are: the text that is printed for a report. Bytes that are none are refused at the first
-- line that is in no report after the lines before it; where the text ends first, at the number of its lines.
use Rattle.std.specs.Prelude.{◌≡◌, ◌≢◌, ℕ, ◌+◌, ◌<◌, ◌≤◌, ◌==◌, min, List, [], ◌∷◌, ◌++◌, length, take, if◌then◌else◌}
use Rattle.volfile.specs.TextLines.{onto_first}
use Rattle.report_text.specs.ReportText.{report_text}
use Rattle.report_text.specs.declared.report.Report.{Report}
use Rattle.report_reader.specs.Reports.{IsReport}

-- the lines of a text, each with the line feed that ends it; what follows the last line feed is a line without one
abbrev pub lines_in : List ℕ → List (List ℕ)
lines_in [] = []
lines_in (b ∷ bs) = if b == 10 then (10 ∷ []) ∷ lines_in bs else onto_first b (lines_in bs)

-- some report's text begins with these lines
pub record Begins (lines : List (List ℕ)) : Type 0 where
  pub report : Report
  pub legal : IsReport report
  pub rest : List (List ℕ)
  pub is : lines_in (report_text report) ≡ lines ++ rest

-- The bytes are no report. `before` is how many of their lines begin a report's text: with one more, where there is one,
-- they begin none. Numbers of lines stay at 4294967295.
pub record IsRefusedAt (line : ℕ) (bytes : List ℕ) : Type 0 where
  pub none : (report : Report) → IsReport report → bytes ≢ report_text report
  pub before : ℕ
  pub within : before ≤ length (lines_in bytes)
  pub begins : Begins (take before (lines_in bytes))
  pub stops : before < length (lines_in bytes) → Begins (take (before + 1) (lines_in bytes)) → ⊥
  pub line_is : line ≡ min (min (before + 1) (length (lines_in bytes))) 4294967295
