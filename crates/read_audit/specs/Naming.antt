-- What is found of one reply by names: an item, an object in a content, the bricks of a set that have no copy, one list.
use Rattle.std.specs.Prelude.{◌≡◌, ℕ, true, false, List, [], ◌∷◌, Some, length, slice_get}
use Rattle.fop_types.specs.Calls.{Submission, call_numbered}
use Rattle.fop_types.specs.Names.{item_named, is_link}
use Rattle.fop_types.specs.Replies.{is_ok}
use Rattle.fop_types.specs.declared.cells.Cell.{Cell}
use Rattle.fop_types.specs.declared.cells.Gfid.{Gfid}
use Rattle.fop_types.specs.declared.contents.Content.{Content as Held}
use Rattle.fop_types.specs.declared.contents.Content.TheVariants.{Names}
use Rattle.fop_types.specs.declared.contents.Item.{Item}
use Rattle.fop_types.specs.declared.contents.Row.{Row}
use Rattle.fop_types.specs.declared.fops.Object.{Object}
use Rattle.fop_types.specs.declared.jobs.SetPlan.{SetPlan}
use Rattle.graph_build.specs.declared.plans.Plan.{Plan}
use Rattle.script_lang.specs.declared.scripts.Script.{Script}
use Rattle.brick_machine.specs.Journal.{Journal}
use Rattle.mount_log.specs.Submissions.{submissions_of}
use Rattle.mount_log.specs.declared.logs.Log.{Log}
use Rattle.mount_log.specs.declared.logs.ReplyLine.{ReplyLine}
use Rattle.change_audit.specs.Answered.{IsQuorum}
use Rattle.read_audit.specs.Names.{object_of, IsWithout, ShowsNames, IsNamed}

-- ---- one name

-- among these items the name means this one, which is no link
pub record IsRealItem (items : List Item) (name : List ℕ) (item : Item) : Type 0 where
  pub named : item_named items name ≡ Some item
  pub real : is_link item.kind ≡ false

-- among these items, which a set shows, the name means this object
pub record IsObjectIn (items : List Item) (name : List ℕ) (set : ℕ) (to : Object) : Type 0 where
  pub item : Item
  pub means : IsRealItem items name item
  pub to_is : to ≡ object_of item set

-- the content is names of a directory that was not removed, and there the name means this object
pub record HasObject (name : List ℕ) (set : ℕ) (to : Object) (content : Held) : Type 0 where
  pub items : List Item
  pub is : content ≡ Names false items
  pub has : IsObjectIn items name set to

-- ---- sets without a copy

-- the rows of a lock of one cell are those of a brick that has no copy of it
pub record IsAbsent (rows : List Row) : Type 0 where
  pub row : Row
  pub rows_are : rows ≡ row ∷ []
  pub absent : row.present ≡ false

-- a quorum of the bricks of a set had no copy of the cell
pub record HaveNoCopy (log : Log) (bricks : List Journal) (plan : SetPlan) (call graph : ℕ) (cell : Cell) (number : ℕ) : Type 0 where
  pub holders : List ℕ
  pub quorum : IsQuorum plan holders (IsWithout log bricks plan call graph cell number)

-- ---- directories

-- the first sets, so many, have these names of a directory
pub record HaveFirst (script : Script) (plans : List Plan) (log : Log) (bricks : List Journal) (call number : ℕ) (dir : Gfid) (sets : ℕ) (lists : List (List Item)) : Type 0 where
  pub long : length lists ≡ sets
  pub have : (set : ℕ) (items : List Item) → slice_get lists set ≡ Some items → ShowsNames script plans log bricks call number set dir items

-- ---- replies

-- a reply that is no error is that of a call which has read the names on its path, and those that it shows
abbrev pub IsNameDue : Script → List Plan → Log → List Journal → ReplyLine → Type 0
IsNameDue script plans log bricks reply =
    (made : Submission) → call_numbered (submissions_of script log) reply.call ≡ Some made → is_ok reply.answer ≡ true → IsNamed script plans log bricks reply.call reply.event made.call reply.answer
