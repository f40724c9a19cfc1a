-- What errors rest on was read from bricks: where a call by path was answered by an error that needs a look, names that the call has
-- read lead along one of its paths, as far as they lead, to an object on which the error rests.
use Rattle.std.specs.Prelude.{◌≡◌, ◌⊎◌, ℕ, ◌<◌, ◌-◌, Bool, true, List, [], ◌∷◌, Option, None, Some, length, take, slice_get, MatchOption}
use Rattle.call_fops.specs.Walks.{root_object}
use Rattle.dht_fops.specs.Objects.{home}
use Rattle.fop_types.specs.Calls.{Submission, call_numbered}
use Rattle.fop_types.specs.Cells.{meta_cell, names_cell}
use Rattle.fop_types.specs.Flat.{name_limit}
use Rattle.fop_types.specs.Names.{item_named, is_link, attr_named, has_real_name}
use Rattle.fop_types.specs.Paths.{parent_parts}
use Rattle.fop_types.specs.declared.answers.Answer.{Answer}
use Rattle.fop_types.specs.declared.answers.Answer.TheVariants as answer
use Rattle.fop_types.specs.declared.answers.AppError.{AppError}
use Rattle.fop_types.specs.declared.answers.AppError.TheVariants as error
use Rattle.fop_types.specs.declared.calls.Call.{Call}
use Rattle.fop_types.specs.declared.calls.Call.TheVariants as call
use Rattle.fop_types.specs.declared.cells.Gfid.{Gfid}
use Rattle.fop_types.specs.declared.cells.Kind.TheVariants as kind
use Rattle.fop_types.specs.declared.contents.Attr.{Attr}
use Rattle.fop_types.specs.declared.contents.Content.TheVariants.{Meta, Names}
use Rattle.fop_types.specs.declared.contents.Item.{Item}
use Rattle.fop_types.specs.declared.contents.Span.{Span}
use Rattle.fop_types.specs.declared.fops.Object.{Object}
use Rattle.graph_build.specs.declared.plans.Plan.{Plan}
use Rattle.script_lang.specs.declared.scripts.Script.{Script}
use Rattle.brick_machine.specs.Journal.{Journal}
use Rattle.mount_log.specs.Causes.{plan_of_volfile}
use Rattle.mount_log.specs.Connections.{graph_of_call}
use Rattle.mount_log.specs.Graphs.{volfiles_of}
use Rattle.mount_log.specs.Submissions.{submissions_of}
use Rattle.mount_log.specs.declared.logs.Log.{Log}
use Rattle.mount_log.specs.declared.logs.ReplyLine.{ReplyLine}
use Rattle.read_audit.specs.Names.{LeadsTo, ShowsNames}
use Rattle.read_audit.specs.Read.{IsFetched}

-- ---- the paths of a call

-- the paths of a call; one by descriptor has none
abbrev pub paths_in : Call → List (List (List ℕ))
paths_in (call.Mkdir path mode) = path.parts ∷ []
paths_in (call.Rmdir path) = path.parts ∷ []
paths_in (call.Create fd path mode) = path.parts ∷ []
paths_in (call.Unlink path) = path.parts ∷ []
paths_in (call.Rename path target) = path.parts ∷ target.parts ∷ []
paths_in (call.Open fd path) = path.parts ∷ []
paths_in (call.Stat path) = path.parts ∷ []
paths_in (call.List path) = path.parts ∷ []
paths_in (call.Chmod path mode) = path.parts ∷ []
paths_in (call.Truncate path size) = path.parts ∷ []
paths_in (call.SetAttr path attr) = path.parts ∷ []
paths_in (call.GetAttr path name) = path.parts ∷ []
paths_in (call.DelAttr path name) = path.parts ∷ []
paths_in (call.Read fd count) = []
paths_in (call.Write fd bytes) = []
paths_in (call.Seek fd offset) = []
paths_in (call.Close fd) = []

-- what of them has to be there: of a name that is made, its directory
abbrev pub needed_by : Call → List (List (List ℕ))
needed_by (call.Mkdir path mode) = parent_parts path.parts ∷ []
needed_by (call.Create fd path mode) = parent_parts path.parts ∷ []
needed_by (call.Rename path target) = path.parts ∷ parent_parts target.parts ∷ []
needed_by other = paths_in other

abbrev pub paths_of : AppError → Call → List (List (List ℕ))
paths_of error.Enoent c = needed_by c
paths_of other c = paths_in c

-- this holds of the path, of one of the two paths where there are two; nothing is asked where there is none
abbrev pub OnAPath : List (List (List ℕ)) → (List (List ℕ) → Type 0) → Type 0
OnAPath [] P = Unit {0}
OnAPath (path ∷ []) P = P path
OnAPath (path ∷ other ∷ paths) P = P path ⊎ P other

-- the attribute that a call names
abbrev pub attr_of : Call → List ℕ
attr_of (call.GetAttr path name) = name
attr_of (call.DelAttr path name) = name
attr_of other = []

-- The first names of a path, so many, lead from the root to an object; and this holds of the name that comes next, if there is one,
-- and of the object.
pub record LeadsUpTo (script : Script) (plans : List Plan) (log : Log) (bricks : List Journal) (call number : ℕ) (path : List (List ℕ)) (P : Option (List ℕ) → Object → Type 0) : Type 0 where
  pub many : ℕ
  pub object : Object
  pub leads : LeadsTo script plans log bricks call number (take many path) root_object object
  pub is : P (slice_get path many) object

-- ---- what is read of an object

-- a set showed names of a directory, of which this holds: whether it was removed, and the names
pub record IsShowing (script : Script) (plans : List Plan) (log : Log) (bricks : List Journal) (call number : ℕ) (dir : Gfid) (P : Bool → List Item → Type 0) : Type 0 where
  pub set : ℕ
  pub removed : Bool
  pub items : List Item
  pub fetched : IsFetched script plans log bricks call number set (names_cell dir) (Names removed items)
  pub is : P removed items

-- a set has no file and no directory of this name in a directory: a link at most
pub record IsNotOn (script : Script) (plans : List Plan) (log : Log) (bricks : List Journal) (call number : ℕ) (dir : Gfid) (name : List ℕ) (set : ℕ) : Type 0 where
  pub items : List Item
  pub shows : ShowsNames script plans log bricks call number set dir items
  pub link : (item : Item) → item_named items name ≡ Some item → is_link item.kind ≡ true

-- none of the sets of the call's graph has one
pub record IsNowhere (script : Script) (plans : List Plan) (log : Log) (bricks : List Journal) (call number : ℕ) (dir : Gfid) (name : List ℕ) : Type 0 where
  pub plan : Plan
  pub plan_is : plan_of_volfile plans (slice_get (volfiles_of script log) (graph_of_call log call - 1)) ≡ Some plan
  pub none : (set : ℕ) → set < length plan.sets → IsNotOn script plans log bricks call number dir name set

-- a directory was removed, or the name that comes next is nowhere in it
pub data IsMissing (script : Script) (plans : List Plan) (log : Log) (bricks : List Journal) (call number : ℕ) (dir : Gfid) (next : Option (List ℕ)) : Type 0 where
  Removed : IsShowing script plans log bricks call number dir (λ removed items. removed ≡ true) → IsMissing script plans log bricks call number dir next
  Nowhere : MatchOption next ⊥ (IsNowhere script plans log bricks call number dir) → IsMissing script plans log bricks call number dir next

-- the object's metadata were read, and have no attribute of this name
pub record IsWithoutAttr (script : Script) (plans : List Plan) (log : Log) (bricks : List Journal) (call number : ℕ) (object : Object) (name : List ℕ) : Type 0 where
  pub mode : ℕ
  pub attrs : List Attr
  pub span : Option Span
  pub meta : IsFetched script plans log bricks call number (home object) (meta_cell object.gfid) (Meta mode attrs span)
  pub none : attr_named attrs name ≡ None

-- ---- replies

-- An error rests on the object that names of a path have led to, and on the name that comes next: something is missing there; it is a
-- file; that name is too long; or none comes next, and the object is there, is a directory, is a file, has names or lacks an
-- attribute. The last three need no look.
abbrev pub RestsOn : Script → List Plan → Log → List Journal → ℕ → ℕ → Call → AppError → Option (List ℕ) → Object → Type 0
RestsOn script plans log bricks call number c error.Enoent next object = IsMissing script plans log bricks call number object.gfid next
RestsOn script plans log bricks call number c error.Enotdir next object = object.kind ≡ kind.File
RestsOn script plans log bricks call number c error.Enametoolong next object = MatchOption next ⊥ (λ name. name_limit < length name)
RestsOn script plans log bricks call number c error.Eexist next object = next ≡ None
RestsOn script plans log bricks call number c error.Eisdir next object = (next ≡ None) × (object.kind ≡ kind.Dir)
RestsOn script plans log bricks call number c error.Eopnotsupp next object = (next ≡ None) × (object.kind ≡ kind.Dir)
RestsOn script plans log bricks call number c error.Efbig next object = (next ≡ None) × (object.kind ≡ kind.File)
RestsOn script plans log bricks call number c error.Enotempty next object = (next ≡ None) × IsShowing script plans log bricks call number object.gfid (λ removed items. has_real_name items ≡ true)
RestsOn script plans log bricks call number c error.Enodata next object = (next ≡ None) × IsWithoutAttr script plans log bricks call number object (attr_of c)
RestsOn script plans log bricks call number c error.Ebadf next object = Unit {0}
RestsOn script plans log bricks call number c error.Ebusy next object = Unit {0}
RestsOn script plans log bricks call number c error.Einval next object = Unit {0}

-- what an answer rests on was read, if it is an error
abbrev pub IsErrorRead : Script → List Plan → Log → List Journal → ℕ → ℕ → Call → Answer → Type 0
IsErrorRead script plans log bricks call number c (answer.App e) =
    OnAPath (paths_of e c) (λ path. LeadsUpTo script plans log bricks call number path (RestsOn script plans log bricks call number c e))
IsErrorRead script plans log bricks call number c other = Unit {0}

-- what each error rests on that a call of the script was answered, but for an I/O error, its call has read
abbrev pub ErrorsAreRead : Script → List Plan → Log → List Journal → Type 0
ErrorsAreRead script plans log bricks =
    (k : ℕ) (reply : ReplyLine) (made : Submission) → slice_get log.replies k ≡ Some reply → call_numbered (submissions_of script log) reply.call ≡ Some made
    → IsErrorRead script plans log bricks reply.call reply.event made.call reply.answer
