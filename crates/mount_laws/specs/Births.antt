-- Births of cells: each birth of a cell gives it the content of its first birth, and a cell that is not firm has that content. A
-- new object's cells are born by its own call alone. Ours.
use Rattle.std.specs.Prelude.{◌≡◌, ◌≢◌, ◌⊎◌, ℕ, ◌<◌, ◌≤◌, Bool, true, false, List, [], ◌∷◌, length, Option, Some, None, is_some, if◌then◌else◌}
use Rattle.afr_machine.specs.Changes.Verdict.{Undrawn}
use Rattle.afr_machine.specs.Touching.{is_cell}
use Rattle.dht_fops.specs.Courses.{Course}
use Rattle.dht_fops.specs.Handed.{Handed, Event}
use Rattle.dht_fops.specs.Handed.Event.{Replied, Held}
use Rattle.dht_fops.specs.Looks.{span_of}
use Rattle.dht_fops.specs.Shown.{SetContents}
use Rattle.fop_types.specs.Cells.{meta_cell, names_cell}
use Rattle.fop_types.specs.declared.cells.Cell.{Cell}
use Rattle.fop_types.specs.declared.cells.Gfid.{Gfid}
use Rattle.fop_types.specs.declared.cells.Kind.{Kind}
use Rattle.fop_types.specs.declared.cells.Kind.TheVariants as kind
use Rattle.fop_types.specs.declared.contents.Content.{Content}
use Rattle.fop_types.specs.declared.contents.Item.{Item}
use Rattle.fop_types.specs.declared.contents.Span.{Span}
use Rattle.fop_types.specs.declared.fops.Fop.{Fop}
use Rattle.fop_types.specs.declared.fops.Fop.TheVariants as fop
use Rattle.fop_types.specs.declared.history.Entry.{Entry}
use Rattle.fop_types.specs.declared.jobs.Job.{Job}
use Rattle.fop_types.specs.declared.jobs.Job.TheVariants as job
use Rattle.fop_types.specs.declared.jobs.SetReply.{SetReply}
use Rattle.fop_types.specs.declared.store_ops.StoreOp.{StoreOp}
use Rattle.fop_types.specs.declared.store_ops.StoreOp.TheVariants as op
use Rattle.mount_laws.specs.Guards.{Allowed}
use Rattle.mount_laws.specs.Objects.{IsMadeBy}
use Rattle.mount_laws.specs.Runs.{Run, Stage}
use Rattle.mount_laws.specs.Runs.Stage.{Bearing, Decided}
use Rattle.mount_laws.specs.States.{State, Change, Status, Runs}
use Rattle.mount_laws.specs.States.Status.{Unsubmitted, Ready, Running, Answered}
use Rattle.mount_laws.specs.Steps.{Step, Task, births_by}

-- ---- contents of births

-- the content that births give a cell
abbrev pub given : List (Cell × Content) → Cell → Option Content
given [] cell = None
given (b ∷ bs) cell = if is_cell cell b.0 then Some b.1 else given bs cell

-- what was born before is the same
abbrev pub IsAsFirst : Option Content → Option Content → Type 0
IsAsFirst first new = (x : Content) → new ≡ Some x → (first ≡ None) ⊎ (first ≡ Some x)

-- Each birth that is sent, by itself or with a change that begins, gives a cell the content of its first birth.
pub record OneBirth (m : State) : Type 0 where
  pub sent : (t : Task) (cell : Cell) → Allowed m (Step.SendsBirths t) → IsAsFirst (m.born t.set cell) (given (births_by t.job) cell)
  pub begun : (t : Task) (u : ℕ) (cell : Cell) → Allowed m (Step.BeginsChange t u) → IsAsFirst (m.born t.set cell) (given (births_by t.job) cell)

-- A present cell was born. Its range is that of its first birth, and as long as the cell is not firm, so is all its content.
pub record IsAsBorn (firm : Bool) (first now : Option Content) : Type 0 where
  pub there : is_some now ≡ true → is_some first ≡ true
  pub span : is_some now ≡ true → span_of now ≡ span_of first
  pub same : firm ≡ false → is_some now ≡ true → now ≡ first

abbrev pub UnconfirmedIsBorn : State → Type 0
UnconfirmedIsBorn m = (set : ℕ) (cell : Cell) → IsAsBorn (m.firm set cell) (m.born set cell) (m.adopted set cell)

-- ---- the object that a call makes

-- a birth was asked of the set
abbrev pub WasAsked : Handed → ℕ → Type 0
WasAsked [] set = ⊥
WasAsked (Held dir ∷ handed) set = WasAsked handed set
WasAsked (Replied one (job.Read cells fd dir) shown ∷ handed) set = WasAsked handed set
WasAsked (Replied one (job.Change cells fd o effect) shown ∷ handed) set = WasAsked handed set
WasAsked (Replied one (job.Birth cells o) shown ∷ handed) set = (one ≡ set) ⊎ WasAsked handed set
WasAsked (Replied one (job.Open fd gfid) shown ∷ handed) set = WasAsked handed set
WasAsked (Replied one job.Index shown ∷ handed) set = WasAsked handed set
WasAsked (Replied one (job.Heal cell) shown ∷ handed) set = WasAsked handed set

abbrev pub HasSent : Stage → Type 0
HasSent Stage.Waiting = ⊥
HasSent (Stage.Settled place) = ⊥
HasSent (Stage.Changing u) = ⊥
HasSent Bearing = Unit {0}
HasSent (Decided number) = Unit {0}

-- the births of the job under way were sent to the set
pub record IsSending (run : Run) (set : ℕ) : Type 0 where
  pub cells : List Cell
  pub op : StoreOp
  pub next : SetReply → Course
  pub asks : run.course ≡ Course.Asks set (job.Birth cells op) next
  pub sent : HasSent run.stage

abbrev pub IsMkdir : Fop → Type 0
IsMkdir (fop.Mkdir parent name mode drawn) = Unit {0}
IsMkdir other = ⊥

-- a mkdir has sent births to the set, which is after the first
pub record HasBorn (run : Run) (set : ℕ) : Type 0 where
  pub mkdir : IsMkdir run.fop
  pub further : 0 < set
  pub sent : WasAsked run.handed set ⊎ IsSending run set

-- a change of the call adds the object on the set
pub record IsAdding (changes : ℕ → Change) (c set : ℕ) (gfid : Gfid) : Type 0 where
  pub change : ℕ
  pub begun : (changes change).verdict ≢ Undrawn
  pub by : (changes change).by ≡ c
  pub set_is : (changes change).set ≡ set
  pub entry : Entry
  pub effect : (changes change).effect ≡ Some entry
  pub parent : Gfid
  pub item : Item
  pub mode : ℕ
  pub span : Option Span
  pub op_is : (changes change).op ≡ op.AddName parent item mode span
  pub gfid_is : item.gfid ≡ gfid

-- where a cell of the object is born, the object was made, or its call has sent births there or begun to add it there
abbrev pub IsBornOf : (Gfid → Option Kind) → (ℕ → Change) → ℕ → Run → Gfid → ℕ → Type 0
IsBornOf kinds changes c run gfid set = (is_some (kinds gfid) ≡ true) ⊎ (HasBorn run set ⊎ IsAdding changes c set gfid)

-- a call that has not begun a fop that may be its last has no cell born
abbrev pub IsFreeBy : (Gfid → Option Kind) → (ℕ → Change) → SetContents → ℕ → Status → Gfid → Type 0
IsFreeBy kinds changes born c Unsubmitted gfid = (set : ℕ) (cell : Cell) → cell.gfid ≡ gfid → born set cell ≡ None
IsFreeBy kinds changes born c Ready gfid = (set : ℕ) (cell : Cell) → cell.gfid ≡ gfid → born set cell ≡ None
IsFreeBy kinds changes born c (Running run) gfid = (set : ℕ) (cell : Cell) → cell.gfid ≡ gfid → is_some (born set cell) ≡ true → IsBornOf kinds changes c run gfid set
IsFreeBy kinds changes born c Answered gfid = Unit {0}

-- The gfid that a call drew: the object is made by a change of the call alone, and before that its cells are born by it alone.
pub record DrawnIsFree (m : State) : Type 0 where
  pub made : (c : ℕ) (gfid : Gfid) (k : Kind) → (m.calls c).drawn ≡ Some gfid → m.kinds gfid ≡ Some k → IsAdding m.changes c (m.homes gfid) gfid
  pub born : (c : ℕ) (gfid : Gfid) → (m.calls c).drawn ≡ Some gfid → IsFreeBy m.kinds m.changes m.born c (m.calls c).status gfid

-- ---- copies of directories

-- the directory was made by a call whose graph has not the set
pub record IsBeyond (m : State) (gfid : Gfid) (set : ℕ) : Type 0 where
  pub call : ℕ
  pub drawn : (m.calls call).drawn ≡ Some gfid
  pub beyond : length (m.calls call).names ≤ set

-- A made directory's copy is firm on each set of the graph of the call that made it; on the others it has no range.
pub record CopiesStand (m : State) : Type 0 where
  pub firm : (c : ℕ) (gfid : Gfid) (set : ℕ) → (m.calls c).drawn ≡ Some gfid → m.kinds gfid ≡ Some kind.Dir → 0 < set → set < length (m.calls c).names → (m.firm set (meta_cell gfid) ≡ true) × (m.firm set (names_cell gfid) ≡ true)
  pub bare : (gfid : Gfid) (set : ℕ) → IsBeyond m gfid set → span_of (m.adopted set (meta_cell gfid)) ≡ None
