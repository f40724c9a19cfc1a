-- The state of the files of all sets, and of the calls that work on them. A set is one atomic store here: it has the content
-- of each of its cells by the changes that were adopted. Ours.
use Rattle.std.specs.Prelude.{◌≡◌, ℕ, Bool, true, false, ◌||◌, List, [], ◌∷◌, length, Option, Some, None, if◌then◌else◌}
use Rattle.std.specs.Ordering.{is_eq}
use Rattle.afr_machine.specs.Changes.{Verdict}
use Rattle.afr_machine.specs.Changes.Verdict.{Undrawn}
use Rattle.afr_machine.specs.Copies.{root_alone, contents_of}
use Rattle.afr_machine.specs.Replicas.{with_at}
use Rattle.afr_machine.specs.Touching.{has_cell}
use Rattle.dht_fops.specs.Shown.{SetContents, Homes}
use Rattle.dht_fops.specs.Volumes.{Kept}
use Rattle.fop_types.specs.Cells.{root, meta_cell, names_cell}
use Rattle.fop_types.specs.Orders.{gfid_cmp}
use Rattle.fop_types.specs.declared.cells.Cell.{Cell}
use Rattle.fop_types.specs.declared.cells.Gfid.{Gfid}
use Rattle.fop_types.specs.declared.cells.Kind.{Kind}
use Rattle.fop_types.specs.declared.cells.Kind.TheVariants as kind
use Rattle.fop_types.specs.declared.contents.Item.{Item}
use Rattle.fop_types.specs.declared.flat.FlatOp.{FlatOp}
use Rattle.fop_types.specs.declared.fops.Fop.{Fop}
use Rattle.fop_types.specs.declared.fops.Object.{Object}
use Rattle.fop_types.specs.declared.history.Entry.{Entry}
use Rattle.fop_types.specs.declared.store_ops.StoreOp.{StoreOp}
use Rattle.fop_types.specs.declared.store_ops.StoreOp.TheVariants as op
use Rattle.mount_laws.specs.Holds.{Hold}
use Rattle.mount_laws.specs.Runs.{Run}

-- ---- changes

-- a change of a call on a set, by its number; `effect` is the entry that it makes, if it changes the file system
pub record Change : Type 0 where
  pub by : ℕ
  pub set : ℕ
  pub cells : List Cell
  pub op : StoreOp
  pub effect : Option Entry
  pub verdict : Verdict

abbrev pub no_change : Change
no_change = record { by = 0; set = 0; cells = []; op = op.MakeCopy root None; effect = None; verdict = Undrawn }

-- ---- calls

-- `Ready`: between two fops. `Running`: with a fop under way.
pub data Status : Type 0 where
  Unsubmitted : Status
  Ready : Status
  Running : (run : Run) → Status
  Answered : Status

-- `names`: those of the sets of its graph. `drawn`: the gfid of the object that the call would make.
pub record Call : Type 0 where
  pub names : List (List ℕ)
  pub drawn : Option Gfid
  pub status : Status

abbrev pub no_call : Call
no_call = record { names = []; drawn = None; status = Unsubmitted }

abbrev pub is_unanswered : Status → Bool
is_unanswered Unsubmitted = false
is_unanswered Ready = true
is_unanswered (Running run) = true
is_unanswered Answered = false

-- whether the call has begun a fop that may be its last
abbrev pub has_begun : Status → Bool
has_begun Unsubmitted = false
has_begun Ready = false
has_begun (Running run) = true
has_begun Answered = true

abbrev pub holds_by : Status → List Hold
holds_by Unsubmitted = []
holds_by Ready = []
holds_by (Running run) = run.holds
holds_by Answered = []

-- ---- the state

-- a name that is still to be moved to a set; nothing is owed before a rebalance
pub record Owed : Type 0 where
  pub dir : Gfid
  pub item : Item
  pub set : ℕ

-- `adopted`: the contents of a set's cells, by births that were sent and changes that were adopted. `firm`: the cells that
-- each lock phase of a quorum shows. `born`: the content of a cell's first birth. `kinds` and `homes`: which objects were
-- made, and the set of each file. `known`: the objects that lookups and creates were answered. `learnt`: the layouts that
-- fops have read. `ops` and `history`: the entries and their operations. `names` are the names of the sets of the newest
-- graph, `root_sets` is the number of sets of the first. Calls are numbered from 1 as far as `submitted`; `draws` of them drew
-- a gfid. Of each call, `since` is the length of the history at its submission, `places` are those of its fops that were
-- answered by something else than an I/O error, and `began` is the fop that it began last.
pub record State : Type 0 where
  pub adopted : SetContents
  pub firm : ℕ → Cell → Bool
  pub born : SetContents
  pub changes : ℕ → Change
  pub kinds : Gfid → Option Kind
  pub homes : Homes
  pub owed : List Owed
  pub known : List Object
  pub learnt : Kept
  pub ops : List FlatOp
  pub history : List Entry
  pub names : List (List ℕ)
  pub root_sets : ℕ
  pub calls : ℕ → Call
  pub submitted : ℕ
  pub draws : ℕ
  pub since : ℕ → ℕ
  pub places : ℕ → List ℕ
  pub began : ℕ → Option Fop

abbrev pub root_object : Object
root_object = record { gfid = root; kind = kind.Dir; set = 0 }

-- each set begins with the root alone
abbrev pub start : List (List ℕ) → State
start names = record {
  adopted = λ set. contents_of root_alone;
  firm = λ set. has_cell (meta_cell root ∷ names_cell root ∷ []);
  born = λ set. contents_of root_alone;
  changes = λ u. no_change;
  kinds = λ gfid. if is_eq (gfid_cmp gfid root) then Some kind.Dir else None;
  homes = λ gfid. 0;
  owed = [];
  known = root_object ∷ [];
  learnt = [];
  ops = [];
  history = [];
  names = names;
  root_sets = length names;
  calls = λ c. no_call;
  submitted = 0;
  draws = 0;
  since = λ c. 0;
  places = λ c. [];
  began = λ c. None;
}

-- ---- parts that are read often

abbrev pub Runs : State → ℕ → Run → Type 0
Runs m c run = (m.calls c).status ≡ Running run

abbrev pub held : State → ℕ → List Hold
held m c = holds_by (m.calls c).status

abbrev pub set_count : State → ℕ
set_count m = length m.names

-- ---- a state with one part changed

abbrev pub with_status : State → ℕ → Status → State
with_status m c status = record m { calls = with_at m.calls c (record (m.calls c) { status = status }) }

abbrev pub with_run : State → ℕ → Run → State
with_run m c run = with_status m c (Running run)

abbrev pub with_change : State → ℕ → Change → State
with_change m u change = record m { changes = with_at m.changes u change }

-- these cells of a set are firm from now on
abbrev pub with_firm : State → ℕ → List Cell → State
with_firm m set cells = record m { firm = with_at m.firm set (λ cell. has_cell cells cell || m.firm set cell) }
