-- The files that all sets show, and what an op that one set applies makes of them. Ours.
use Rattle.std.specs.Prelude.{◌≡◌, ◌≢◌, ℕ, ◌<◌, Bool, true, false, List, [], Option, Some, None}
use Rattle.contents.specs.Rising.{Rise, item_names}
use Rattle.dht_fops.specs.Answers.{change_of, Accepts}
use Rattle.dht_fops.specs.Standing.{Volumes, AreSound}
use Rattle.fop_types.specs.Cells.{names_cell}
use Rattle.fop_types.specs.Files.{Files}
use Rattle.fop_types.specs.Flat.{flat_after}
use Rattle.fop_types.specs.Names.{is_link}
use Rattle.fop_types.specs.StoreOps.{items_of, item_in, is_taken, fits}
use Rattle.fop_types.specs.declared.cells.Aspect.{Aspect}
use Rattle.fop_types.specs.declared.cells.Gfid.{Gfid}
use Rattle.fop_types.specs.declared.cells.Kind.TheVariants as kind
use Rattle.fop_types.specs.declared.contents.Item.{Item}
use Rattle.fop_types.specs.declared.flat.FlatOp.{FlatOp}
use Rattle.fop_types.specs.declared.history.Entry.{Entry}
use Rattle.fop_types.specs.declared.store_ops.StoreOp.{StoreOp}
use Rattle.fop_types.specs.declared.store_ops.StoreOp.TheVariants as op
use Rattle.afr_machine.specs.Replicas.{with_at}
use Rattle.mount_laws.specs.Steps.{applied, kinds_after, homes_after, by_effect}

-- ---- the files

-- The contents of all sets show the flat file system. The names of a directory rise by their bytes on each set; a file's name
-- is on its home, a directory's on the first set, and each on a set of the graph; an object that was not made has no names.
pub record ShownIsFlat (s : Volumes) (count : ℕ) : Type 0 where
  pub sound : AreSound s count
  pub rising : (dir : Gfid) (set : ℕ) → Rise (item_names (items_of (s.contents set (names_cell dir))))
  pub at_home : (dir : Gfid) (name : List ℕ) (set : ℕ) (item : Item) → item_in (s.contents set) dir name ≡ Some item → item.kind ≡ kind.File → s.homes item.gfid ≡ set
  pub on_first : (dir : Gfid) (name : List ℕ) (set : ℕ) (item : Item) → item_in (s.contents set) dir name ≡ Some item → item.kind ≡ kind.Dir → set ≡ 0
  pub within : (dir : Gfid) (name : List ℕ) (set : ℕ) → is_taken (item_in (s.contents set) dir name) ≡ true → set < count
  pub orphans : (gfid : Gfid) (set : ℕ) → s.kinds gfid ≡ None → items_of (s.contents set (names_cell gfid)) ≡ []

-- ---- an op that a set applies

-- the files after the operation that a change makes
abbrev pub files_with : Files → Option FlatOp → Files
files_with files None = files
files_with files (Some o) = flat_after files o

-- a set applies the op; with an effect, the flat file system makes its operation
abbrev pub after_op : Volumes → ℕ → StoreOp → Option Entry → Volumes
after_op s set o effect = record {
  contents = with_at s.contents set (applied (s.contents set) o);
  homes = by_effect effect s.homes (homes_after s.homes set o);
  kinds = by_effect effect s.kinds (kinds_after s.kinds o);
  files = by_effect effect s.files (files_with s.files (change_of o));
}

-- ---- when an op stands on its set

-- the set has the object: a file's home, a directory's first set
pub record IsOn (s : Volumes) (set : ℕ) (gfid : Gfid) : Type 0 where
  pub file : s.kinds gfid ≡ Some kind.File → s.homes gfid ≡ set
  pub directory : s.kinds gfid ≡ Some kind.Dir → set ≡ 0

-- the object was not made and has no cell on the set; a directory's name is added on the first set
pub record IsNew (s : Volumes) (set : ℕ) (item : Item) : Type 0 where
  pub target : item.target ≡ []
  pub unmade : s.kinds item.gfid ≡ None
  pub absent : (aspect : Aspect) → s.contents set (record { gfid = item.gfid; aspect = aspect }) ≡ None
  pub directory : item.kind ≡ kind.Dir → set ≡ 0

-- a file or directory of the name is on the set
abbrev pub IsThere : Volumes → ℕ → Gfid → List ℕ → Type 0
IsThere s set dir name = is_taken (item_in (s.contents set) dir name) ≡ true

-- no file or directory of the name is on another set
abbrev pub IsNowhereElse : Volumes → ℕ → Gfid → List ℕ → Type 0
IsNowhereElse s set dir name = (other : ℕ) → other ≢ set → is_taken (item_in (s.contents other) dir name) ≡ false

-- an op with an effect is on the set that has its object or its name
abbrev pub IsPlaced : Volumes → ℕ → StoreOp → Type 0
IsPlaced s set (op.Write gfid offset bytes) = IsOn s set gfid
IsPlaced s set (op.Truncate gfid size) = IsOn s set gfid
IsPlaced s set (op.SetMode gfid mode) = IsOn s set gfid
IsPlaced s set (op.SetAttr gfid attr) = IsOn s set gfid
IsPlaced s set (op.DelAttr gfid name) = IsOn s set gfid
IsPlaced s set (op.AddName parent item mode span) = IsNew s set item
IsPlaced s set (op.DropName parent name) = IsThere s set parent name
IsPlaced s set (op.DropDir parent name gfid) = Unit {0}
IsPlaced s set (op.Move parent name target new_name) = IsThere s set parent name × IsNowhereElse s set target new_name
IsPlaced s set (op.MakeCopy gfid span) = ⊥

-- an op without an effect adds a link in a directory, drops one, or gives birth to the copy of a directory
abbrev pub IsUnshown : Volumes → ℕ → StoreOp → Type 0
IsUnshown s set (op.AddName parent item mode span) = (item.kind ≡ kind.Link) × (s.kinds parent ≡ Some kind.Dir)
IsUnshown s set (op.DropName parent name) = is_taken (item_in (s.contents set) parent name) ≡ false
IsUnshown s set (op.MakeCopy gfid span) = Unit {0}
IsUnshown s set other = ⊥

abbrev pub Stands : Volumes → ℕ → StoreOp → Option Entry → Type 0
Stands s set o None = IsUnshown s set o
Stands s set o (Some entry) = Accepts s.files (change_of o) × IsPlaced s set o

-- the op fits its set, which is one of the graph; and with an effect the flat file system accepts its operation
pub record FitsNow (s : Volumes) (count set : ℕ) (o : StoreOp) (effect : Option Entry) : Type 0 where
  pub on_set : set < count
  pub fits_set : fits (s.contents set) o ≡ true
  pub stands : Stands s set o effect

-- What the sets show after an op that fits is the flat file system after its operation.
abbrev pub OneOp : Type 0
OneOp = (s : Volumes) (count set : ℕ) (o : StoreOp) (effect : Option Entry) → ShownIsFlat s count → FitsNow s count set o effect → ShownIsFlat (after_op s set o effect) count
