-- What is found of one error: the objects that the first names of a path lead to, and what a directory's names and an object's
-- metadata show.
use Rattle.std.specs.Prelude.{◌≡◌, ℕ, Bool, true, List, Option, None, Some, take, MatchOption}
use Rattle.call_fops.specs.Walks.{root_object}
use Rattle.dht_linkto.specs.Known.{is_no_object}
use Rattle.fop_types.specs.Calls.{Submission, call_numbered}
use Rattle.fop_types.specs.Names.{item_named, attr_named}
use Rattle.fop_types.specs.declared.cells.Cell.{Cell}
use Rattle.fop_types.specs.declared.contents.Attr.{Attr}
use Rattle.fop_types.specs.declared.contents.Content.{Content as Held}
use Rattle.fop_types.specs.declared.contents.Content.TheVariants.{Meta, Names}
use Rattle.fop_types.specs.declared.contents.Item.{Item}
use Rattle.fop_types.specs.declared.contents.Span.{Span}
use Rattle.graph_build.specs.declared.plans.Plan.{Plan}
use Rattle.script_lang.specs.declared.scripts.Script.{Script}
use Rattle.brick_machine.specs.Journal.{Journal}
use Rattle.mount_log.specs.Submissions.{submissions_of}
use Rattle.mount_log.specs.declared.logs.Log.{Log}
use Rattle.mount_log.specs.declared.logs.ReplyLine.{ReplyLine}
use Rattle.read_audit.specs.Errors.{IsErrorRead}
use Rattle.read_audit.specs.Names.{LeadsTo}
use Rattle.read_audit.specs.Read.{IsFetched}
use Rattle.read_audit.specs.declared.reached.Reached.{Reached}

-- so many first names of the path lead to the object
abbrev pub IsReached : Script → List Plan → Log → List Journal → ℕ → ℕ → List (List ℕ) → Reached → Type 0
IsReached script plans log bricks call number path reached = LeadsTo script plans log bricks call number (take reached.many path) root_object reached.object

-- the content is names of a directory, of which this holds
pub record AreNames (P : Bool → List Item → Type 0) (content : Held) : Type 0 where
  pub removed : Bool
  pub items : List Item
  pub is : content ≡ Names removed items
  pub holds : P removed items

-- the content is metadata without an attribute of this name
pub record HasNoAttr (name : List ℕ) (content : Held) : Type 0 where
  pub mode : ℕ
  pub attrs : List Attr
  pub span : Option Span
  pub is : content ≡ Meta mode attrs span
  pub none : attr_named attrs name ≡ None

-- there are names, and among them is no file and no directory of this name
abbrev pub Lack : Option (List Item) → List ℕ → Type 0
Lack names name = MatchOption names ⊥ (λ items. is_no_object (item_named items name) ≡ true)

-- a content of the cell was fetched, from some set
pub record IsFetchedSomewhere (script : Script) (plans : List Plan) (log : Log) (bricks : List Journal) (call number : ℕ) (cell : Cell) (content : Held) : Type 0 where
  pub set : ℕ
  pub fetched : IsFetched script plans log bricks call number set cell content

-- what the answer of a reply rests on was read by its call, if it is an error
abbrev pub IsErrorDue : Script → List Plan → Log → List Journal → ReplyLine → Type 0
IsErrorDue script plans log bricks reply =
    (made : Submission) → call_numbered (submissions_of script log) reply.call ≡ Some made → IsErrorRead script plans log bricks reply.call reply.event made.call reply.answer
