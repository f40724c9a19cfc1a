-- The text of a report, line by line: single spaces between words, and a line feed after each line.
use Rattle.std.specs.Prelude.{ℕ, ◌+◌, ◌==◌, List, [], ◌∷◌, ◌++◌, length, codes, flat_map, if◌then◌else◌}
use Rattle.std.specs.Fmt.{decimal}
use Rattle.fop_types.specs.declared.cells.Cell.{Cell}
use Rattle.fop_types.specs.declared.causes.SkipCause.{SkipCause}
use Rattle.report_text.specs.Words.{cell_text, cause_word, places_text}
use Rattle.report_text.specs.AnswerText.{answer_text}
use Rattle.report_text.specs.declared.report.Report.{Report}
use Rattle.report_text.specs.declared.calls.ReportCall.{ReportCall}
use Rattle.report_text.specs.declared.graphs.ReportGraph.{ReportGraph}

-- call C session NAME line L places P ANSWER
abbrev pub call_line : ReportCall → List ℕ
call_line call = codes "call " ++ decimal call.call ++ codes " session " ++ call.session ++ codes " line " ++ decimal call.line
    ++ codes " places " ++ places_text call.places ++ codes " " ++ answer_text call.answer ++ codes "\n"

-- history N
abbrev pub history_line : List (ℕ × ℕ) → List ℕ
history_line history = codes "history " ++ decimal (length history) ++ codes "\n"

-- entry I call C part K
abbrev pub entry_line : ℕ → ℕ × ℕ → List ℕ
entry_line i entry = codes "entry " ++ decimal i ++ codes " call " ++ decimal entry.0 ++ codes " part " ++ decimal entry.1 ++ codes "\n"

-- the lines of entries, the first of them with number i
abbrev pub entry_lines : ℕ → List (ℕ × ℕ) → List ℕ
entry_lines i [] = []
entry_lines i (entry ∷ rest) = entry_line i entry ++ entry_lines (i + 1) rest

-- heal CELL from BRICK to BRICK
abbrev pub heal_line : Cell × List ℕ × List ℕ → List ℕ
heal_line heal = codes "heal " ++ cell_text heal.0 ++ codes " from " ++ heal.1 ++ codes " to " ++ heal.2 ++ codes "\n"

-- skip CELL CAUSE
abbrev pub skip_line : Cell × SkipCause → List ℕ
skip_line skip = codes "skip " ++ cell_text skip.0 ++ codes " " ++ cause_word skip.1 ++ codes "\n"

-- a graph is drained where each wind that was opened has ended
abbrev pub drained_word : ReportGraph → List ℕ
drained_word graph = if graph.opened == graph.ended then codes "drained" else codes "open"

-- graph G NAME winds A ended B drained|open
abbrev pub graph_line : ReportGraph → List ℕ
graph_line graph = codes "graph " ++ decimal graph.graph ++ codes " " ++ graph.name ++ codes " winds " ++ decimal graph.opened
    ++ codes " ended " ++ decimal graph.ended ++ codes " " ++ drained_word graph ++ codes "\n"

-- the whole text
unfoldable pub report_text : Report → List ℕ
report_text report = codes "report 1\n"
    ++ flat_map call_line report.calls
    ++ history_line report.history
    ++ entry_lines 1 report.history
    ++ flat_map heal_line report.heals
    ++ flat_map skip_line report.skips
    ++ flat_map graph_line report.graphs
    ++ codes "end\n"
