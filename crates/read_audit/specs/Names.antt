-- Names were read from bricks: where a call was answered well, its path leads from the root to one object by names that the call has
-- read, one directory after the other; a stat and a getattr show that object; and a list shows the names that each set has of that
-- directory, links left out.
use Rattle.std.specs.Prelude.{◌≡◌, ℕ, ◌-◌, ◌<◌, Bool, true, false, List, [], ◌∷◌, Some, Contains, length, slice_get}
use Rattle.std.specs.List.{AllByRecursion}
use Rattle.call_fops.specs.Walks.{first_path, second_path, root_object}
use Rattle.dht_fops.specs.Objects.{home}
use Rattle.fop_types.specs.Bounds.{item_cmp, Rises}
use Rattle.fop_types.specs.Calls.{Submission, call_numbered, looked_up}
use Rattle.fop_types.specs.Cells.{names_cell}
use Rattle.fop_types.specs.Names.{item_named, is_link}
use Rattle.fop_types.specs.Replies.{is_ok}
use Rattle.fop_types.specs.declared.answers.Answer.{Answer}
use Rattle.fop_types.specs.declared.answers.Answer.TheVariants as answer
use Rattle.fop_types.specs.declared.calls.Call.{Call}
use Rattle.fop_types.specs.declared.cells.Cell.{Cell}
use Rattle.fop_types.specs.declared.cells.Gfid.{Gfid}
use Rattle.fop_types.specs.declared.contents.Content.TheVariants.{Names}
use Rattle.fop_types.specs.declared.contents.Item.{Item}
use Rattle.fop_types.specs.declared.contents.Row.{Row}
use Rattle.fop_types.specs.declared.fops.Object.{Object}
use Rattle.fop_types.specs.declared.jobs.SetPlan.{SetPlan}
use Rattle.fop_types.specs.declared.messages.BrickReq.TheVariants.{Lock}
use Rattle.graph_build.specs.declared.plans.Plan.{Plan}
use Rattle.script_lang.specs.declared.scripts.Script.{Script}
use Rattle.brick_machine.specs.Journal.{Journal}
use Rattle.mount_log.specs.Causes.{set_of_call, plan_of_volfile}
use Rattle.mount_log.specs.Connections.{graph_of_call}
use Rattle.mount_log.specs.Graphs.{volfiles_of}
use Rattle.mount_log.specs.Submissions.{submissions_of}
use Rattle.mount_log.specs.declared.logs.Log.{Log}
use Rattle.mount_log.specs.declared.logs.ReplyLine.{ReplyLine}
use Rattle.change_audit.specs.Answered.{IsQuorum}
use Rattle.read_audit.specs.Read.{Asked, asked_by, IsFetched, IsGrantedIn, AreAttributesRead, IsAttributeRead}

-- ---- paths

-- the object that a name means: its set is the one that shows the name
abbrev pub object_of : Item → ℕ → Object
object_of item set = record { gfid = item.gfid; kind = item.kind; set = set }

-- In this call the names of a directory were fetched by the event of this number, from a set where the directory was not removed; and
-- there the name means this object. A link means none.
pub record IsStep (script : Script) (plans : List Plan) (log : Log) (bricks : List Journal) (call number : ℕ) (dir : Gfid) (name : List ℕ) (to : Object) : Type 0 where
  pub set : ℕ
  pub items : List Item
  pub fetched : IsFetched script plans log bricks call number set (names_cell dir) (Names false items)
  pub item : Item
  pub named : item_named items name ≡ Some item
  pub real : is_link item.kind ≡ false
  pub to_is : to ≡ object_of item set

-- an object to which one step leads, and from which the rest leads on
pub record IsBetween (Step Rest : Object → Type 0) : Type 0 where
  pub object : Object
  pub step : Step object
  pub rest : Rest object

-- names lead from one object to another, each in the directory that the one before it led to
abbrev pub LeadsTo : Script → List Plan → Log → List Journal → ℕ → ℕ → List (List ℕ) → Object → Object → Type 0
LeadsTo script plans log bricks call number [] from to = from ≡ to
LeadsTo script plans log bricks call number (name ∷ names) from to =
    IsBetween (IsStep script plans log bricks call number from.gfid name) (λ next. LeadsTo script plans log bricks call number names next to)

-- the path leads from the root to an object of which this holds
pub record LeadsToOne (script : Script) (plans : List Plan) (log : Log) (bricks : List Journal) (call number : ℕ) (path : List (List ℕ)) (P : Object → Type 0) : Type 0 where
  pub object : Object
  pub leads : LeadsTo script plans log bricks call number path root_object object
  pub is : P object

-- ---- the names of one set

-- a brick of the set granted the call a lock of the cell alone, by what had arrived by the event of this number, and had no copy of it
pub record IsWithout (log : Log) (bricks : List Journal) (plan : SetPlan) (call graph : ℕ) (cell : Cell) (number brick : ℕ) : Type 0 where
  pub member : Contains plan.bricks brick
  pub wind : ℕ
  pub shared : Bool
  pub row : Row
  pub event : ℕ
  pub granted : IsGrantedIn log bricks brick wind graph event (Lock call shared (cell ∷ [])) (row ∷ [])
  pub absent : row.present ≡ false
  pub in_time : event < number

-- a quorum of the bricks of a set, which is not the first one, had no copy of the cell
pub record IsLacking (script : Script) (plans : List Plan) (log : Log) (bricks : List Journal) (call number set : ℕ) (cell : Cell) : Type 0 where
  pub behind : 0 < set
  pub plan : SetPlan
  pub plan_is : set_of_call script plans log call set ≡ Some plan
  pub holders : List ℕ
  pub quorum : IsQuorum plan holders (IsWithout log bricks plan call (graph_of_call log call) cell number)

-- a set has these names of a directory: they were fetched, or the set has no copy and so no names
pub data ShowsNames (script : Script) (plans : List Plan) (log : Log) (bricks : List Journal) (call number set : ℕ) (dir : Gfid) (items : List Item) : Type 0 where
  Shown : IsFetched script plans log bricks call number set (names_cell dir) (Names false items) → ShowsNames script plans log bricks call number set dir items
  NoCopy : items ≡ [] → IsLacking script plans log bricks call number set (names_cell dir) → ShowsNames script plans log bricks call number set dir items

-- ---- lists

-- some item of a list has this name
pub record HasName (items : List Item) (name : List ℕ) : Type 0 where
  pub place : ℕ
  pub item : Item
  pub there : slice_get items place ≡ Some item
  pub name_is : item.name ≡ name

-- some item of a list has the name, the gfid and the kind of this one
pub record IsAmong (items : List Item) (shown : Item) : Type 0 where
  pub place : ℕ
  pub item : Item
  pub there : slice_get items place ≡ Some item
  pub name_is : item.name ≡ shown.name
  pub gfid_is : item.gfid ≡ shown.gfid
  pub kind_is : item.kind ≡ shown.kind

-- the item is no link, and one of the sets has it
pub record IsOnASet (lists : List (List Item)) (shown : Item) : Type 0 where
  pub real : is_link shown.kind ≡ false
  pub set : ℕ
  pub items : List Item
  pub there : slice_get lists set ≡ Some items
  pub among : IsAmong items shown

-- each name of a file or a directory is shown
abbrev pub AreShown : List Item → List Item → Type 0
AreShown shown items = AllByRecursion (λ item. is_link item.kind ≡ false → HasName shown item.name) items

-- What is shown of a directory is what the sets of the call's graph have of it, one list for each: each of their names is shown, but
-- for links; what is shown is one of them; and, as the names rise byte by byte, none is shown twice.
pub record ListsAll (script : Script) (plans : List Plan) (log : Log) (bricks : List Journal) (call number : ℕ) (dir : Gfid) (shown : List Item) : Type 0 where
  pub plan : Plan
  pub plan_is : plan_of_volfile plans (slice_get (volfiles_of script log) (graph_of_call log call - 1)) ≡ Some plan
  pub lists : List (List Item)
  pub many : length lists ≡ length plan.sets
  pub have : (set : ℕ) (items : List Item) → slice_get lists set ≡ Some items → ShowsNames script plans log bricks call number set dir items
  pub all : AllByRecursion (AreShown shown) lists
  pub only : AllByRecursion (IsOnASet lists) shown
  pub rising : Rises item_cmp true shown

-- ---- replies

-- what the answer shows is this object's; the metadata of a directory is that on the first set
abbrev pub IsOf : Script → List Plan → Log → List Journal → ℕ → ℕ → Object → Asked → Answer → Type 0
IsOf script plans log bricks call number object Asked.Attributes (answer.Stat kind mode size) =
    (object.kind ≡ kind) × AreAttributesRead script plans log bricks call number (home object) object.gfid kind mode size
IsOf script plans log bricks call number object Asked.Attributes other = Unit {0}
IsOf script plans log bricks call number object (Asked.Attribute name) (answer.Bytes value) = IsAttributeRead script plans log bricks call number (home object) object.gfid name value
IsOf script plans log bricks call number object (Asked.Attribute name) other = Unit {0}
IsOf script plans log bricks call number object Asked.Names (answer.List items) = ListsAll script plans log bricks call number object.gfid items
IsOf script plans log bricks call number object Asked.Names other = Unit {0}
IsOf script plans log bricks call number object (Asked.Part count) other = Unit {0}
IsOf script plans log bricks call number object Asked.Other other = Unit {0}

-- The path of a call leads to one object, and what the answer shows is that object's; a rename's second path leads to one, too. A call
-- that looks up nothing has an empty path.
pub record IsNamed (script : Script) (plans : List Plan) (log : Log) (bricks : List Journal) (call number : ℕ) (c : Call) (a : Answer) : Type 0 where
  pub first : LeadsToOne script plans log bricks call number (first_path (looked_up c)) (λ object. IsOf script plans log bricks call number object (asked_by c) a)
  pub second : LeadsToOne script plans log bricks call number (second_path (looked_up c)) (λ object. Unit {0})

-- each call of the script that was answered well has read the names on its path, and those that it shows
abbrev pub NamesAreRead : Script → List Plan → Log → List Journal → Type 0
NamesAreRead script plans log bricks =
    (k : ℕ) (reply : ReplyLine) (made : Submission) → slice_get log.replies k ≡ Some reply → call_numbered (submissions_of script log) reply.call ≡ Some made → is_ok reply.answer ≡ true
    → IsNamed script plans log bricks reply.call reply.event made.call reply.answer
