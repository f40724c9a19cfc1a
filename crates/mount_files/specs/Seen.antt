-- What is so of a name that a set has as a file's or a directory's, and of one that no set has. Ours.
use Rattle.std.specs.Prelude.{◌≡◌, ◌⊎◌, ℕ, ◌<◌, false, List, Option, Some, None}
use Rattle.dht_fops.specs.Standing.{Volumes}
use Rattle.fop_types.specs.Cells.{names_cell}
use Rattle.fop_types.specs.Files.{names_at}
use Rattle.fop_types.specs.Names.{item_named, is_link}
use Rattle.fop_types.specs.StoreOps.{needs, is_removed, is_taken, item_in}
use Rattle.fop_types.specs.declared.cells.Gfid.{Gfid}
use Rattle.fop_types.specs.declared.cells.Kind.TheVariants as kind
use Rattle.fop_types.specs.declared.contents.Item.{Item}
use Rattle.mount_files.specs.Pairs.{OpOn, Touches, Removes, Needs, Fits}
use Rattle.mount_files.specs.Showing.{ShownIsFlat}

-- The flat file system has the item, and its directory is not removed; an op that fits and touches the name is on this set and
-- needs its directory's names there; and none that fits removes the directory.
pub record IsHere (s : Volumes) (count set : ℕ) (dir : Gfid) (name : List ℕ) (item : Item) : Type 0 where
  pub shown : item_named (names_at s.files dir) name ≡ Some item
  pub kept : is_removed (s.contents 0 (names_cell dir)) ≡ false
  pub touched : (o : OpOn) → Fits s count o → Touches o.op o.effect dir name → (o.set ≡ set) × Needs (needs o.op) (names_cell dir)
  pub stays : (o : OpOn) → Fits s count o → Removes o.op dir → ⊥

-- of a name that a set has as a file's or a directory's, in a directory that was made
abbrev pub NameHere : Type 0
NameHere = (s : Volumes) (count set : ℕ) (dir : Gfid) (name : List ℕ) (item : Item) → ShownIsFlat s count → s.kinds dir ≡ Some kind.Dir → item_in (s.contents set) dir name ≡ Some item → is_link item.kind ≡ false → IsHere s count set dir name item

-- The flat file system has no such name; and each op that touches a name of the directory, or removes it, needs its names on a
-- set of the graph.
pub record IsNowhere (s : Volumes) (count : ℕ) (dir : Gfid) (name : List ℕ) : Type 0 where
  pub absent : item_named (names_at s.files dir) name ≡ None
  pub needed : (o : OpOn) (other : List ℕ) → Fits s count o → Touches o.op o.effect dir other ⊎ Removes o.op dir → (o.set < count) × Needs (needs o.op) (names_cell dir)

-- of a name that no set of the graph has
abbrev pub NameNowhere : Type 0
NameNowhere = (s : Volumes) (count : ℕ) (dir : Gfid) (name : List ℕ) → ShownIsFlat s count → s.kinds dir ≡ Some kind.Dir → ((set : ℕ) → set < count → is_taken (item_in (s.contents set) dir name) ≡ false) → IsNowhere s count dir name
