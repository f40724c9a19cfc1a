-- How a report is read line by line. A draft is the report so far, and what may come next; a line gives the draft after
-- it, or it is in no report here.
use Rattle.std.specs.Prelude.{◌≡◌, ℕ, ◌-◌, ◌==◌, Bool, true, false, List, [], ◌∷◌, ◌++◌, length, codes, Option, Some, None, Result, Ok, Err, if◌then◌else◌}
use Rattle.std.specs.Option.{option_map}
use Rattle.volfile.specs.TextLines.{is_text, line_after}
use Rattle.fop_types.specs.declared.cells.Cell.{Cell}
use Rattle.fop_types.specs.declared.causes.SkipCause.{SkipCause}
use Rattle.report_text.specs.declared.answers.ReportAnswer.{ReportAnswer}
use Rattle.report_text.specs.declared.calls.ReportCall.{ReportCall}
use Rattle.report_text.specs.declared.graphs.ReportGraph.{ReportGraph}
use Rattle.report_text.specs.declared.report.Report.{Report}
use Rattle.report_reader.specs.declared.bad.Bad.{Bad}
use Rattle.report_reader.specs.declared.bad.Bad.TheVariants.{Line}
use Rattle.report_reader.specs.declared.bad.ReportError.{ReportError}
use Rattle.report_reader.specs.declared.bad.ReportError.TheVariants.{At, Mem}
use Rattle.report_reader.specs.declared.drafts.Part.{Part}
use Rattle.report_reader.specs.declared.drafts.Part.TheVariants as part
use Rattle.report_reader.specs.declared.drafts.Draft.{Draft}
use Rattle.report_reader.specs.Readings.{lines_in}
use Rattle.report_reader.specs.code.Readers.{Whole, chain_all, form_at, behind, ended, parts_at}
use Rattle.report_reader.specs.code.Forms.{unit_of, part_of, places_of, cell_of, name_at, cause_of}
use Rattle.report_reader.specs.code.AnswerForms.{answer_of}

-- ---- lines behind their first words
-- the number after so many
abbrev pub if_next : ℕ → Option ℕ → Option ℕ
if_next count None = None
if_next count (Some m) = if m == 0 then None else if m - 1 == count then Some m else None

abbrev pub next_number : ℕ → List ℕ → Option ℕ
next_number count word = if_next count (unit_of word)

abbrev pub call_made : ℕ → List ℕ → ℕ → List ℕ → Result ReportAnswer Bad → Result ReportCall Bad
call_made n session line places (Ok answer) = Ok (record { call = n; session = session; line = line; places = places; answer = answer })
call_made n session line places (Err bad) = Err bad

-- places P ANSWER
abbrev pub call_end : ℕ → List ℕ → ℕ → Whole ReportCall
call_end n session line ws = behind (codes "places") (chain_all (form_at places_of) (λ places us. call_made n session line places (answer_of us))) ws

-- C session NAME line L places P ANSWER
abbrev pub call_of : ℕ → Whole ReportCall
call_of count ws =
    chain_all (form_at (next_number count)) (λ m. behind (codes "session") (chain_all (form_at name_at) (λ session.
    behind (codes "line") (chain_all (form_at unit_of) (λ line. call_end m session line))))) ws

-- N
abbrev pub history_of : Whole ℕ
history_of ws = chain_all (form_at unit_of) (λ count. ended count) ws

-- I call C part K
abbrev pub entry_of : ℕ → Whole (ℕ × ℕ)
entry_of count ws =
    chain_all (form_at (next_number count)) (λ m. behind (codes "call") (chain_all (form_at unit_of) (λ call. behind (codes "part") (chain_all (form_at part_of) (λ k. ended (call, k)))))) ws

-- CELL from BRICK to BRICK
abbrev pub heal_of : Whole (Cell × List ℕ × List ℕ)
heal_of ws =
    chain_all (form_at cell_of) (λ cell. behind (codes "from") (chain_all (form_at name_at) (λ source. behind (codes "to") (chain_all (form_at name_at) (λ sink. ended (cell, source, sink)))))) ws

-- CELL CAUSE
abbrev pub skip_of : Whole (Cell × SkipCause)
skip_of ws = chain_all (form_at cell_of) (λ cell. chain_all (form_at cause_of) (λ cause. ended (cell, cause))) ws

-- whether the word says that all winds have ended
abbrev pub drained_of : ℕ → ℕ → List ℕ → Option Bool
drained_of opened closed word =
    if opened == closed then (if is_text word (codes "drained") then Some true else None) else (if is_text word (codes "open") then Some false else None)

abbrev pub graph_made : ℕ → List ℕ → ℕ → ℕ → ReportGraph
graph_made n name opened closed = record { graph = n; name = name; opened = opened; ended = closed }

-- ended B drained|open
abbrev pub graph_end : ℕ → List ℕ → ℕ → Whole ReportGraph
graph_end n name opened ws =
    behind (codes "ended") (chain_all (form_at unit_of) (λ closed. chain_all (form_at (drained_of opened closed)) (λ drained. ended (graph_made n name opened closed)))) ws

-- G NAME winds A ended B drained|open
abbrev pub graph_of : ℕ → Whole ReportGraph
graph_of count ws =
    chain_all (form_at (next_number count)) (λ m. chain_all (form_at name_at) (λ name. behind (codes "winds") (chain_all (form_at unit_of) (λ opened. graph_end m name opened)))) ws

-- ---- what a line does to the draft
abbrev pub with_call : Draft → Result ReportCall Bad → Result Draft Bad
with_call d (Ok call) = Ok (record d { calls = d.calls ++ call ∷ [] })
with_call d (Err bad) = Err bad

-- the entries that are still to come, and then copies
abbrev pub entries_left : ℕ → Part
entries_left count = if count == 0 then part.Heals else part.Entries count

abbrev pub with_count : Draft → Result ℕ Bad → Result Draft Bad
with_count d (Ok count) = Ok (record d { part = entries_left count })
with_count d (Err bad) = Err bad

abbrev pub with_entry : Draft → ℕ → Result (ℕ × ℕ) Bad → Result Draft Bad
with_entry d count (Ok entry) = Ok (record d { part = entries_left (count - 1); history = d.history ++ entry ∷ [] })
with_entry d count (Err bad) = Err bad

abbrev pub with_heal : Draft → Result (Cell × List ℕ × List ℕ) Bad → Result Draft Bad
with_heal d (Ok heal) = Ok (record d { heals = d.heals ++ heal ∷ [] })
with_heal d (Err bad) = Err bad

abbrev pub with_skip : Draft → Result (Cell × SkipCause) Bad → Result Draft Bad
with_skip d (Ok skip) = Ok (record d { part = part.Skips; skips = d.skips ++ skip ∷ [] })
with_skip d (Err bad) = Err bad

abbrev pub with_graph : Draft → Result ReportGraph Bad → Result Draft Bad
with_graph d (Ok graph) = Ok (record d { part = part.Graphs; graphs = d.graphs ++ graph ∷ [] })
with_graph d (Err bad) = Err bad

-- report 1
abbrev pub head_read : Draft → Whole Draft
head_read d ws = behind (codes "report") (behind (codes "1") (ended (record d { part = part.Calls }))) ws

abbrev pub call_read_by : Draft → List ℕ → Whole Draft
call_read_by d w ws =
    if is_text w (codes "call") then with_call d (call_of (length d.calls) ws)
    else if is_text w (codes "history") then with_count d (history_of ws)
    else Err Line

abbrev pub call_read : Draft → Whole Draft
call_read d [] = Err Line
call_read d (w ∷ ws) = call_read_by d w ws

abbrev pub entry_read : Draft → ℕ → Whole Draft
entry_read d count ws = behind (codes "entry") (λ us. with_entry d count (entry_of (length d.history) us)) ws

-- a line behind the history: none of an earlier kind comes after one of a later
abbrev pub may_heal : Part → Bool
may_heal part.Heals = true
may_heal p = false

abbrev pub may_skip : Part → Bool
may_skip part.Heals = true
may_skip part.Skips = true
may_skip p = false

abbrev pub heal_read : Draft → Whole Draft
heal_read d ws = if may_heal d.part then with_heal d (heal_of ws) else Err Line

abbrev pub skip_read : Draft → Whole Draft
skip_read d ws = if may_skip d.part then with_skip d (skip_of ws) else Err Line

abbrev pub late_read_by : Draft → List ℕ → Whole Draft
late_read_by d w ws =
    if is_text w (codes "heal") then heal_read d ws
    else if is_text w (codes "skip") then skip_read d ws
    else if is_text w (codes "graph") then with_graph d (graph_of (length d.graphs) ws)
    else if is_text w (codes "end") then ended (record d { part = part.Done }) ws
    else Err Line

abbrev pub late_read : Draft → Whole Draft
late_read d [] = Err Line
late_read d (w ∷ ws) = late_read_by d w ws

abbrev pub words_read_by : Part → Draft → Whole Draft
words_read_by part.Head d ws = head_read d ws
words_read_by part.Calls d ws = call_read d ws
words_read_by (part.Entries count) d ws = entry_read d count ws
words_read_by part.Heals d ws = late_read d ws
words_read_by part.Skips d ws = late_read d ws
words_read_by part.Graphs d ws = late_read d ws
words_read_by part.Done d ws = Err Line

abbrev pub words_read : Draft → Whole Draft
words_read d ws = words_read_by d.part d ws

-- a line without its line feed
unfoldable pub line_read : Draft → List ℕ → Result Draft Bad
line_read d line = words_read d (parts_at 32 line)

-- ---- the whole text
abbrev pub nothing_read : Draft
nothing_read = record { part = part.Head; calls = []; history = []; heals = []; skips = []; graphs = [] }

abbrev pub report_of : Draft → Report
report_of d = record { calls = d.calls; history = d.history; heals = d.heals; skips = d.skips; graphs = d.graphs }

abbrev pub nothing_if_empty : List ℕ → Option (List ℕ)
nothing_if_empty [] = Some []
nothing_if_empty (b ∷ bs) = None

-- what is before the line feed that ends a line
abbrev pub without_feed : List ℕ → Option (List ℕ)
without_feed [] = None
without_feed (b ∷ bs) = if b == 10 then nothing_if_empty bs else option_map (λ l. b ∷ l) (without_feed bs)

abbrev pub fed_read : Draft → Option (List ℕ) → Result Draft Bad
fed_read d None = Err Line
fed_read d (Some line) = line_read d line

abbrev pub text_ended_by : Part → Draft → ℕ → Result Report ReportError
text_ended_by part.Done d number = Ok (report_of d)
text_ended_by p d number = Err (At number)

abbrev pub read_on : Result Draft Bad → ℕ → (Draft → Result Report ReportError) → Result Report ReportError
read_on (Ok d) number rest = rest d
read_on (Err bad) number rest = Err (At number)

-- the lines behind the line with this number
abbrev pub lines_read : List (List ℕ) → Draft → ℕ → Result Report ReportError
lines_read [] d number = text_ended_by d.part d number
lines_read (line ∷ rest) d number = read_on (fed_read d (without_feed line)) (line_after number) (λ e. lines_read rest e (line_after number))

-- a result of the code, but for running out of memory
abbrev pub IsButForMemory : Result Report ReportError → Result Report ReportError → Type 0
IsButForMemory (Ok r) wanted = wanted ≡ Ok r
IsButForMemory (Err (At line)) wanted = wanted ≡ Err (At line)
IsButForMemory (Err Mem) wanted = Unit {0}

-- a line of the code: the lines behind it are read from the next draft, or the bytes are refused at it
abbrev pub IsStep : {X : Type 0} → (X → List ℕ) → Result X ReportError → List ℕ → Draft → Draft → ℕ → Type 0
IsStep seen (Ok x) bytes d e number = lines_read (lines_in bytes) d number ≡ lines_read (lines_in (seen x)) e (line_after number)
IsStep seen (Err (At line)) bytes d e number = lines_read (lines_in bytes) d number ≡ Err (At line)
IsStep seen (Err Mem) bytes d e number = Unit {0}
