-- Answers were read from bricks: where a stat, a getattr, or a read without an io-cache was answered well, a brick had answered a
-- fetch of the call, by the event of the reply, by the content that the answer shows; and before that a quorum of the brick's set,
-- the brick among them, had granted the call locks of the same cells, of which the cell that was fetched is one, and by the rows that
-- they showed of it the brick was sound.
use Rattle.std.specs.Prelude.{◌≡◌, ℕ, ◌-◌, ◌<◌, ◌≤◌, ◌==◌, ◌||◌, Bool, true, false, List, [], ◌∷◌, Option, None, Some, Contains, length, map, slice_get}
use Rattle.std.specs.List.{AllByRecursion, IsDistinct}
use Rattle.fop_types.specs.Calls.{Submission, call_numbered}
use Rattle.fop_types.specs.Cells.{data_cell, meta_cell}
use Rattle.fop_types.specs.FileBytes.{read_from}
use Rattle.fop_types.specs.Names.{attr_named}
use Rattle.fop_types.specs.declared.answers.Answer.{Answer}
use Rattle.fop_types.specs.declared.answers.Answer.TheVariants as answer
use Rattle.fop_types.specs.declared.answers.SplitRow.{SplitRow}
use Rattle.fop_types.specs.declared.calls.Call.{Call}
use Rattle.fop_types.specs.declared.calls.Call.TheVariants as call
use Rattle.fop_types.specs.declared.cells.Cell.{Cell}
use Rattle.fop_types.specs.declared.cells.Gfid.{Gfid}
use Rattle.fop_types.specs.declared.cells.Kind.{Kind}
use Rattle.fop_types.specs.declared.cells.Kind.TheVariants as kind
use Rattle.fop_types.specs.declared.contents.Attr.{Attr}
use Rattle.fop_types.specs.declared.contents.Content.{Content as Held}
use Rattle.fop_types.specs.declared.contents.Content.TheVariants.{Bytes, Meta}
use Rattle.fop_types.specs.declared.contents.Row.{Row}
use Rattle.fop_types.specs.declared.contents.Span.{Span}
use Rattle.fop_types.specs.declared.jobs.SetPlan.{SetPlan}
use Rattle.fop_types.specs.declared.messages.BrickRep.TheVariants.{Done}
use Rattle.fop_types.specs.declared.messages.BrickReq.{BrickReq}
use Rattle.fop_types.specs.declared.messages.BrickReq.TheVariants.{Lock, Fetch}
use Rattle.fop_types.specs.declared.messages.DoneArm.TheVariants.{Rows, Content}
use Rattle.fop_types.specs.declared.messages.Input.TheVariants.{Request}
use Rattle.fop_types.specs.declared.messages.OutKind.TheVariants.{Reply}
use Rattle.graph_build.specs.declared.plans.NodeKind.{NodeKind}
use Rattle.graph_build.specs.declared.plans.NodeKind.TheVariants as node
use Rattle.graph_build.specs.declared.plans.NodePlan.{NodePlan}
use Rattle.graph_build.specs.declared.plans.Plan.{Plan}
use Rattle.script_lang.specs.declared.scripts.Script.{Script}
use Rattle.wire_xdr.specs.WireText.{input_text, output_text}
use Rattle.brick_machine.specs.Journal.{Journal}
use Rattle.mount_log.specs.Causes.{set_of_call, plan_of_volfile}
use Rattle.mount_log.specs.Connections.{graph_of_call}
use Rattle.mount_log.specs.Graphs.{volfiles_of}
use Rattle.mount_log.specs.Submissions.{submissions_of}
use Rattle.mount_log.specs.declared.logs.HubEvent.TheVariants.{Arrive}
use Rattle.mount_log.specs.declared.logs.Log.{Log}
use Rattle.mount_log.specs.declared.logs.ReplyLine.{ReplyLine}
use Rattle.change_audit.specs.Answered.{IsDoneIn, IsWindFor}
use Rattle.change_audit.specs.Copied.{IsSoundBy}

-- ---- a content that was fetched after locks had been granted

-- A request of a graph on a wind is in a brick's journal, and its answer by rows arrived in the event at this place, from 0. A lock
-- that had to wait is answered with a later input than its own.
pub record IsGrantedIn (log : Log) (bricks : List Journal) (brick wind graph event : ℕ) (req : BrickReq) (rows : List Row) : Type 0 where
  pub at : Journal
  pub there : slice_get bricks brick ≡ Some at
  pub place : ℕ
  pub request : slice_get at.journal place ≡ Some (input_text (Request wind graph req))
  pub taken : ℕ
  pub behind : place < taken
  pub arrived : slice_get log.events event ≡ Some (Arrive brick (output_text (record { taken = taken; kind = Reply wind (Done (Rows rows)) })))

-- The brick of a row is one of the set and granted the call a lock of these cells, by what had arrived before the event at a place,
-- from 0; and the row is the one that it showed of the cell at a place among them.
pub record IsHolder (log : Log) (bricks : List Journal) (plan : SetPlan) (call graph : ℕ) (cells : List Cell) (place until : ℕ) (r : SplitRow) : Type 0 where
  pub member : Contains plan.bricks r.brick
  pub wind : ℕ
  pub shared : Bool
  pub rows : List Row
  pub event : ℕ
  pub granted : IsGrantedIn log bricks r.brick wind graph event (Lock call shared cells) rows
  pub row_is : slice_get rows place ≡ Some r.row
  pub before : event < until

abbrev pub brick_in : SplitRow → ℕ
brick_in r = r.brick

-- The rows are of different bricks, at least as many as the quorum of their set, of each something holds, and by them this brick, which
-- is one of these, is sound.
pub record IsGroup (plan : SetPlan) (rows : List SplitRow) (source : ℕ) (Holds : SplitRow → Type 0) : Type 0 where
  pub differ : IsDistinct ◌==◌ (map brick_in rows)
  pub enough : plan.q ≤ length (map brick_in rows)
  pub each : AllByRecursion Holds rows
  pub among : Contains (map brick_in rows) source
  pub sound : IsSoundBy plan rows source

-- in this call the content of the cell arrived by the event of this number, from a brick of this set of the call's graph
pub record IsFetched (script : Script) (plans : List Plan) (log : Log) (bricks : List Journal) (call number set : ℕ) (cell : Cell) (content : Held) : Type 0 where
  pub plan : SetPlan
  pub plan_is : set_of_call script plans log call set ≡ Some plan
  pub source : ℕ
  pub wind : ℕ
  pub fd : ℕ
  pub last : ℕ
  pub event : ℕ
  pub answered : IsDoneIn log bricks source wind (graph_of_call log call) event (Fetch fd cell) (Content content last)
  pub of_call : IsWindFor log.winds call wind
  pub in_time : event < number
  -- a quorum of the set's bricks had granted locks, the source among them; by the rows that they showed of the cell it is sound
  pub cells : List Cell
  pub place : ℕ
  pub has : slice_get cells place ≡ Some cell
  pub rows : List SplitRow
  pub group : IsGroup plan rows source (IsHolder log bricks plan call (graph_of_call log call) cells place event)

-- ---- what an answer shows

-- what a call asks to be shown of an object: a part of a file of at most so many bytes, what a stat shows, an attribute, or the
-- names of a directory
pub data Asked : Type 0 where
  Part : ℕ → Asked
  Attributes : Asked
  Attribute : List ℕ → Asked
  Names : Asked
  Other : Asked

abbrev pub asked_by : Call → Asked
asked_by (call.Read fd count) = Asked.Part count
asked_by (call.Stat path) = Asked.Attributes
asked_by (call.GetAttr path name) = Asked.Attribute name
asked_by (call.Mkdir path mode) = Asked.Other
asked_by (call.Rmdir path) = Asked.Other
asked_by (call.Create fd path mode) = Asked.Other
asked_by (call.Unlink path) = Asked.Other
asked_by (call.Rename path target) = Asked.Other
asked_by (call.Open fd path) = Asked.Other
asked_by (call.List path) = Asked.Names
asked_by (call.Chmod path mode) = Asked.Other
asked_by (call.Truncate path size) = Asked.Other
asked_by (call.SetAttr path attr) = Asked.Other
asked_by (call.DelAttr path name) = Asked.Other
asked_by (call.Write fd bytes) = Asked.Other
asked_by (call.Seek fd offset) = Asked.Other
asked_by (call.Close fd) = Asked.Other

-- the bytes are a part of a file
pub record IsPartRead (script : Script) (plans : List Plan) (log : Log) (bricks : List Journal) (call number count : ℕ) (bytes : List ℕ) : Type 0 where
  pub set : ℕ
  pub gfid : Gfid
  pub whole : List ℕ
  pub fetched : IsFetched script plans log bricks call number set (data_cell gfid) (Bytes whole)
  pub offset : ℕ
  pub part : bytes ≡ read_from whole offset count

-- the mode and the size are a file's
pub record IsFileRead (script : Script) (plans : List Plan) (log : Log) (bricks : List Journal) (call number set : ℕ) (gfid : Gfid) (mode size : ℕ) : Type 0 where
  pub whole : List ℕ
  pub attrs : List Attr
  pub span : Option Span
  pub bytes : IsFetched script plans log bricks call number set (data_cell gfid) (Bytes whole)
  pub meta : IsFetched script plans log bricks call number set (meta_cell gfid) (Meta mode attrs span)
  pub size_is : size ≡ length whole

-- the mode is a directory's
pub record IsDirectoryRead (script : Script) (plans : List Plan) (log : Log) (bricks : List Journal) (call number set : ℕ) (gfid : Gfid) (mode : ℕ) : Type 0 where
  pub attrs : List Attr
  pub span : Option Span
  pub meta : IsFetched script plans log bricks call number set (meta_cell gfid) (Meta mode attrs span)

-- the bytes are the value of an object's attribute
pub record IsAttributeRead (script : Script) (plans : List Plan) (log : Log) (bricks : List Journal) (call number set : ℕ) (gfid : Gfid) (name value : List ℕ) : Type 0 where
  pub mode : ℕ
  pub attrs : List Attr
  pub span : Option Span
  pub meta : IsFetched script plans log bricks call number set (meta_cell gfid) (Meta mode attrs span)
  pub attr : Attr
  pub named : attr_named attrs name ≡ Some attr
  pub value_is : value ≡ attr.value

abbrev pub AreAttributesRead : Script → List Plan → Log → List Journal → ℕ → ℕ → ℕ → Gfid → Kind → ℕ → ℕ → Type 0
AreAttributesRead script plans log bricks call number set gfid kind.File mode size = IsFileRead script plans log bricks call number set gfid mode size
AreAttributesRead script plans log bricks call number set gfid kind.Dir mode size = IsDirectoryRead script plans log bricks call number set gfid mode
AreAttributesRead script plans log bricks call number set gfid kind.Link mode size = ⊥

-- of some object on a set this holds
pub record OfAnObject (P : ℕ → Gfid → Type 0) : Type 0 where
  pub set : ℕ
  pub gfid : Gfid
  pub is : P set gfid

-- ---- graphs whose reads may be answered from pages that are kept

abbrev pub is_cache : NodeKind → Bool
is_cache (node.Client client) = false
is_cache (node.Replicate set) = false
is_cache node.Distribute = false
is_cache node.IoCache = true
is_cache node.IoThreads = false
is_cache node.Pass = false

abbrev pub has_cache : List NodePlan → Bool
has_cache [] = false
has_cache (n ∷ nodes) = is_cache n.kind || has_cache nodes

abbrev pub keeps_pages : Option Plan → Bool
keeps_pages None = true
keeps_pages (Some plan) = has_cache plan.nodes

-- whether the graph in which a call is carried out has an io-cache node
abbrev pub may_keep : Script → List Plan → Log → ℕ → Bool
may_keep script plans log call = keeps_pages (plan_of_volfile plans (slice_get (volfiles_of script log) (graph_of_call log call - 1)))

-- ---- replies

-- the answer was read from bricks, if it shows what the call asks; a read is answered so where no page is kept
abbrev pub IsRead : Script → List Plan → Log → List Journal → ℕ → ℕ → Asked → Answer → Type 0
IsRead script plans log bricks call number (Asked.Part count) (answer.Bytes bytes) = may_keep script plans log call ≡ false → IsPartRead script plans log bricks call number count bytes
IsRead script plans log bricks call number (Asked.Part count) other = Unit {0}
IsRead script plans log bricks call number Asked.Attributes (answer.Stat kind mode size) = OfAnObject (λ set gfid. AreAttributesRead script plans log bricks call number set gfid kind mode size)
IsRead script plans log bricks call number Asked.Attributes other = Unit {0}
IsRead script plans log bricks call number (Asked.Attribute name) (answer.Bytes value) = OfAnObject (λ set gfid. IsAttributeRead script plans log bricks call number set gfid name value)
IsRead script plans log bricks call number (Asked.Attribute name) other = Unit {0}
IsRead script plans log bricks call number Asked.Names other = Unit {0}
IsRead script plans log bricks call number Asked.Other other = Unit {0}

-- each reply to a call of the script that shows something was read from bricks
abbrev pub AnswersAreRead : Script → List Plan → Log → List Journal → Type 0
AnswersAreRead script plans log bricks =
    (k : ℕ) (reply : ReplyLine) (made : Submission) → slice_get log.replies k ≡ Some reply → call_numbered (submissions_of script log) reply.call ≡ Some made
    → IsRead script plans log bricks reply.call reply.event (asked_by made.call) reply.answer
