-- The reports that the text of a report may be of. Calls, entries and graphs have the numbers from 1 on without
-- gaps. Names are names, numbers have 32 bits, and the place of a fault and the last change of a row 64. A call shows
-- files and directories and no links. No list is without items: a count of 0 has its text.
use Rattle.std.specs.Prelude.{◌≡◌, ℕ, ◌+◌, ◌<◌, ◌≤◌, true, List, [], ◌∷◌, length}
use Rattle.fop_types.specs.Bounds.{Each, IsUnit, IsHyper, IsCell, is_component}
use Rattle.fop_types.specs.declared.cells.Cell.{Cell}
use Rattle.fop_types.specs.declared.cells.Kind.{Kind}
use Rattle.fop_types.specs.declared.cells.Kind.TheVariants.{File, Dir, Link}
use Rattle.fop_types.specs.declared.causes.SkipCause.{SkipCause}
use Rattle.volfile.specs.TextLines.{is_name}
use Rattle.report_text.specs.declared.answers.ReportAnswer.{ReportAnswer}
use Rattle.report_text.specs.declared.answers.ReportAnswer.TheVariants.{Done, Count, Bytes, Stat, List as Items, App, Io}
use Rattle.report_text.specs.declared.calls.ReportCall.{ReportCall}
use Rattle.report_text.specs.declared.faults.ReportIo.{ReportIo}
use Rattle.report_text.specs.declared.faults.ReportIo.TheVariants.{Quorum, Split, Fault}
use Rattle.report_text.specs.declared.faults.ReportRow.{ReportRow}
use Rattle.report_text.specs.declared.graphs.ReportGraph.{ReportGraph}
use Rattle.report_text.specs.declared.report.Report.{Report}

-- 1 to 64 letters, digits, `_`, `-` and `.`
abbrev pub IsName : List ℕ → Type 0
IsName name = is_name name ≡ true

-- a component of a path, of at most 255 bytes
abbrev pub IsItemName : List ℕ → Type 0
IsItemName name = (is_component name ≡ true) × (length name ≤ 255)

abbrev pub IsShown : Kind → Type 0
IsShown File = Unit {0}
IsShown Dir = Unit {0}
IsShown Link = ⊥

abbrev pub IsItem : List ℕ × Kind → Type 0
IsItem item = IsItemName item.0 × IsShown item.1

-- a brick with the number of its last connection
abbrev pub IsLost : List ℕ × ℕ → Type 0
IsLost brick = IsName brick.0 × IsUnit brick.1

-- a brick with the place of the request that failed
abbrev pub IsFailed : List ℕ × ℕ → Type 0
IsFailed brick = IsName brick.0 × IsHyper brick.1

-- one to five counters
pub record IsRow (row : ReportRow) : Type 0 where
  pub cell : IsCell row.cell
  pub brick : IsName row.brick
  pub dirty : IsUnit row.dirty
  pub some : 1 ≤ length row.pending
  pub few : length row.pending ≤ 5
  pub pending : Each IsUnit row.pending
  pub last : IsHyper row.last

abbrev pub IsIo : ReportIo → Type 0
IsIo (Quorum set lost) = IsName set × Each IsLost lost
IsIo (Split set rows) = IsName set × Each IsRow rows
IsIo (Fault set faults lost) = IsName set × Each IsFailed faults × Each IsLost lost

abbrev pub IsByte : ℕ → Type 0
IsByte b = b < 256

abbrev pub IsAnswer : ReportAnswer → Type 0
IsAnswer Done = Unit {0}
IsAnswer (Count n) = IsUnit n
IsAnswer (Bytes bytes) = Each IsByte bytes
IsAnswer (Stat kind mode size) = IsShown kind × (mode < 65536) × IsUnit size
IsAnswer (Items items) = (1 ≤ length items) × IsUnit (length items) × Each IsItem items
IsAnswer (App error) = Unit {0}
IsAnswer (Io io) = IsIo io

pub record IsCall (call : ReportCall) : Type 0 where
  pub number : IsUnit call.call
  pub session : IsName call.session
  pub line : IsUnit call.line
  pub places : Each IsUnit call.places
  pub answer : IsAnswer call.answer

-- calls of which the first has this number, and each other the next one
abbrev pub AreCalls : ℕ → List ReportCall → Type 0
AreCalls n [] = Unit {0}
AreCalls n (call ∷ calls) = (call.call ≡ n) × IsCall call × AreCalls (n + 1) calls

-- the call and the part of an entry
abbrev pub IsEntry : ℕ × ℕ → Type 0
IsEntry entry = IsUnit entry.0 × (entry.1 < 256)

-- a cell with the brick it came from and the brick it went to
abbrev pub IsHeal : Cell × List ℕ × List ℕ → Type 0
IsHeal heal = IsCell heal.0 × IsName heal.1 × IsName heal.2

abbrev pub IsSkip : Cell × SkipCause → Type 0
IsSkip skip = IsCell skip.0

pub record IsGraph (graph : ReportGraph) : Type 0 where
  pub number : IsUnit graph.graph
  pub name : IsName graph.name
  pub opened : IsUnit graph.opened
  pub ended : IsUnit graph.ended

abbrev pub AreGraphs : ℕ → List ReportGraph → Type 0
AreGraphs n [] = Unit {0}
AreGraphs n (graph ∷ graphs) = (graph.graph ≡ n) × IsGraph graph × AreGraphs (n + 1) graphs

pub record IsReport (report : Report) : Type 0 where
  pub calls : AreCalls 1 report.calls
  pub count : IsUnit (length report.history)
  pub history : Each IsEntry report.history
  pub heals : Each IsHeal report.heals
  pub skips : Each IsSkip report.skips
  pub graphs : AreGraphs 1 report.graphs
