-- The report of a log: its replies by the numbers of their calls, its history, its copies and skips, and the counts of the
-- winds of each graph, with the script's names in place of numbers. A set has the name that it has in the plan of the graph
-- that first used it.
use Rattle.std.specs.Prelude.{ℕ, ◌+◌, ◌<◌, ◌==◌, ◌^◌, ◌&&◌, not, Bool, List, [], ◌∷◌, Option, Some, None, find, length, map, count_by, min, take, slice_get}
use Rattle.std.specs.List.{range_with_len}
use Rattle.fop_types.specs.declared.answers.Answer.{Answer}
use Rattle.fop_types.specs.declared.answers.Answer.TheVariants as answer
use Rattle.fop_types.specs.declared.answers.IoError.{IoError}
use Rattle.fop_types.specs.declared.answers.IoError.TheVariants as io
use Rattle.fop_types.specs.declared.answers.SplitRow.{SplitRow}
use Rattle.fop_types.specs.declared.cells.Cell.{Cell}
use Rattle.fop_types.specs.declared.cells.Kind.{Kind}
use Rattle.fop_types.specs.declared.contents.Item.{Item}
use Rattle.fop_types.specs.declared.copy_jobs.CopyRecord.{CopyRecord}
use Rattle.fop_types.specs.declared.history.Entry.{Entry}
use Rattle.fop_types.specs.declared.jobs.SetPlan.{SetPlan}
use Rattle.graph_build.specs.declared.plans.Plan.{Plan}
use Rattle.script_lang.specs.declared.scripts.Action.{Action}
use Rattle.script_lang.specs.declared.scripts.Action.TheVariants as action
use Rattle.volfile.specs.declared.brick_lines.BrickLine.{BrickLine}
use Rattle.script_lang.specs.declared.scripts.NamedVolfile.{NamedVolfile}
use Rattle.script_lang.specs.declared.scripts.Script.{Script}
use Rattle.mount_log.specs.declared.logs.HubEvent.{HubEvent}
use Rattle.mount_log.specs.declared.logs.HubEvent.TheVariants as logged
use Rattle.mount_log.specs.declared.logs.Log.{Log}
use Rattle.mount_log.specs.declared.logs.ReplyLine.{ReplyLine}
use Rattle.mount_log.specs.declared.logs.WindLine.{WindLine}
use Rattle.mount_log.specs.Graphs.{volfiles_of}
use Rattle.report_text.specs.declared.answers.ReportAnswer.{ReportAnswer}
use Rattle.report_text.specs.declared.answers.ReportAnswer.TheVariants as shown
use Rattle.report_text.specs.declared.calls.ReportCall.{ReportCall}
use Rattle.report_text.specs.declared.faults.ReportIo.{ReportIo}
use Rattle.report_text.specs.declared.faults.ReportIo.TheVariants as fault
use Rattle.report_text.specs.declared.faults.ReportRow.{ReportRow}
use Rattle.report_text.specs.declared.graphs.ReportGraph.{ReportGraph}
use Rattle.report_text.specs.declared.report.Report.{Report}

-- ---- names

pub record NamesState : Type 0 where
  pub script : Script
  pub plans : List Plan
  pub volfiles : List ℕ

abbrev pub names_of : Script → List Plan → Log → NamesState
names_of script plans log = record { script = script; plans = plans; volfiles = volfiles_of script log }

abbrev pub name_of_brick : Option BrickLine → List ℕ
name_of_brick None = []
name_of_brick (Some line) = line.name

abbrev pub brick_name : NamesState → ℕ → List ℕ
brick_name n brick = name_of_brick (slice_get n.script.bricks brick)

abbrev pub name_if_there : Option (List ℕ) → List ℕ
name_if_there None = []
name_if_there (Some name) = name

abbrev pub session_name : NamesState → ℕ → List ℕ
session_name n session = name_if_there (slice_get n.script.sessions session)

abbrev pub or_later : Option SetPlan → Option SetPlan → Option SetPlan
or_later (Some s) later = Some s
or_later None later = later

abbrev pub set_by : Option Plan → ℕ → Option SetPlan → Option SetPlan
set_by None set later = None
set_by (Some plan) set later = or_later (slice_get plan.sets set) later

-- a set, in the first of these volfiles' plans that has it
abbrev pub set_among : List Plan → List ℕ → ℕ → Option SetPlan
set_among plans [] set = None
set_among plans (v ∷ vs) set = set_by (slice_get plans v) set (set_among plans vs set)

abbrev pub name_of_set : Option SetPlan → List ℕ
name_of_set None = []
name_of_set (Some s) = s.name

abbrev pub set_name : NamesState → ℕ → List ℕ
set_name n set = name_of_set (set_among n.plans n.volfiles set)

abbrev pub replicas_by : Option SetPlan → ℕ
replicas_by None = 0
replicas_by (Some s) = length s.bricks

-- how many replicas a set has
abbrev pub replicas_of : NamesState → ℕ → ℕ
replicas_of n set = replicas_by (set_among n.plans n.volfiles set)

-- ---- answers

-- an item of a list shows its name and kind only
abbrev pub shown_item : Item → List ℕ × Kind
shown_item item = (item.name, item.kind)

-- the empty list is shown as the count 0
abbrev pub shown_list : List (List ℕ × Kind) → ReportAnswer
shown_list [] = shown.Count 0
shown_list (item ∷ items) = shown.List (item ∷ items)

abbrev pub shown_brick : NamesState → ℕ × ℕ → List ℕ × ℕ
shown_brick n pair = (brick_name n pair.0, pair.1)

-- a row shows one counter for each replica of the set
abbrev pub shown_row : NamesState → ℕ → SplitRow → ReportRow
shown_row n replicas row = record {
  cell = row.cell;
  brick = brick_name n row.brick;
  present = row.row.present;
  dirty = row.row.dirty;
  pending = take replicas row.row.pending;
  last = row.row.last;
}

abbrev pub shown_io : NamesState → IoError → ReportIo
shown_io n (io.Quorum set lost) = fault.Quorum (set_name n set) (map (shown_brick n) lost)
shown_io n (io.Split set rows) = fault.Split (set_name n set) (map (shown_row n (min (replicas_of n set) 5)) rows)
shown_io n (io.Fault set faults lost) = fault.Fault (set_name n set) (map (shown_brick n) faults) (map (shown_brick n) lost)

abbrev pub shown_answer : NamesState → Answer → ReportAnswer
shown_answer n answer.Done = shown.Done
shown_answer n (answer.Count count) = shown.Count count
shown_answer n (answer.Bytes bytes) = shown.Bytes bytes
shown_answer n (answer.Stat kind mode size) = shown.Stat kind mode size
shown_answer n (answer.List items) = shown_list (map shown_item items)
shown_answer n (answer.App error) = shown.App error
shown_answer n (answer.Io error) = shown.Io (shown_io n error)

abbrev pub shown_call : NamesState → ReplyLine → ReportCall
shown_call n reply = record {
  call = reply.call;
  session = session_name n reply.session;
  line = reply.line;
  places = reply.places;
  answer = shown_answer n reply.answer;
}

-- ---- the lists

abbrev pub reply_to : ℕ → List ReplyLine → Option ReplyLine
reply_to number replies = find (λ r. r.call == number) replies

abbrev pub with_call_shown : NamesState → Option ReplyLine → List ReportCall → List ReportCall
with_call_shown n None rest = rest
with_call_shown n (Some reply) rest = shown_call n reply ∷ rest

abbrev pub shown_numbers : NamesState → List ReplyLine → List ℕ → List ReportCall
shown_numbers n replies [] = []
shown_numbers n replies (number ∷ numbers) = with_call_shown n (reply_to number replies) (shown_numbers n replies numbers)

-- the calls by rising number
abbrev pub shown_calls : NamesState → List ReplyLine → List ReportCall
shown_calls n replies = shown_numbers n replies (range_with_len 1 (length replies))

abbrev pub shown_entry : Entry → ℕ × ℕ
shown_entry entry = (entry.call, entry.part)

abbrev pub shown_heal : NamesState → CopyRecord → Cell × List ℕ × List ℕ
shown_heal n copy = (copy.cell, brick_name n copy.source, brick_name n copy.sink)

abbrev pub is_opening_in : ℕ → WindLine → Bool
is_opening_in graph line = (line.graph == graph) && line.opened

abbrev pub is_end_in : ℕ → WindLine → Bool
is_end_in graph line = (line.graph == graph) && not line.opened

abbrev pub name_of_volfile : Option NamedVolfile → List ℕ
name_of_volfile None = []
name_of_volfile (Some v) = v.name

abbrev pub shown_graph : Script → List WindLine → ℕ → ℕ → ReportGraph
shown_graph script winds graph volfile = record {
  graph = graph;
  name = name_of_volfile (slice_get script.volfiles volfile);
  opened = count_by (is_opening_in graph) winds;
  ended = count_by (is_end_in graph) winds;
}

-- the graphs from this number on, with the winds of each
abbrev pub shown_graphs : Script → List WindLine → ℕ → List ℕ → List ReportGraph
shown_graphs script winds graph [] = []
shown_graphs script winds graph (v ∷ vs) = shown_graph script winds graph v ∷ shown_graphs script winds (graph + 1) vs

-- winds can be counted: there are fewer than 2^32 openings, and ends
pub record AreFewWinds (winds : List WindLine) : Type 0 where
  pub opened : count_by (λ line. line.opened) winds < 2 ^ 32
  pub ended : count_by (λ line. not line.opened) winds < 2 ^ 32

abbrev pub report_by : NamesState → Log → Report
report_by n log = record {
  calls = shown_calls n log.replies;
  history = map shown_entry log.history;
  heals = map (shown_heal n) log.copies;
  skips = log.skips;
  graphs = shown_graphs n.script log.winds 1 n.volfiles;
}

abbrev pub report_of : Script → List Plan → Log → Report
report_of script plans log = report_by (names_of script plans log) log
