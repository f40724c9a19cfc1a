-- What a fop knows of names before its first change, by what it was handed in: a name that it saw is in the flat file system, and
-- no other change touches it; a name that it saw on no set is not there, and nothing else touches a name of the directory. Ours.
use Rattle.std.specs.Prelude.{◌≡◌, ℕ, false, List, Some, None}
use Rattle.afr_machine.specs.Changes.Verdict.{Unsettled}
use Rattle.dht_fops.specs.Handed.{SawName, SawNowhere}
use Rattle.dht_fops.specs.Standing.{HaveNoEffect}
use Rattle.fop_types.specs.Cells.{names_cell}
use Rattle.fop_types.specs.Files.{names_at}
use Rattle.fop_types.specs.Names.{item_named}
use Rattle.fop_types.specs.StoreOps.{is_removed}
use Rattle.fop_types.specs.declared.cells.Gfid.{Gfid}
use Rattle.fop_types.specs.declared.cells.Kind.{Kind}
use Rattle.fop_types.specs.declared.cells.Kind.TheVariants as kind
use Rattle.fop_types.specs.declared.contents.Item.{Item}
use Rattle.mount_files.specs.Pairs.{Touches, Removes}
use Rattle.mount_laws.specs.Guards.{IsReached}
use Rattle.mount_laws.specs.Objects.{volumes}
use Rattle.mount_laws.specs.Runs.{Run, Stage}
use Rattle.mount_laws.specs.Runs.Stage.{Waiting, Settled, Changing, Bearing, Decided}
use Rattle.mount_laws.specs.States.{State, Runs}
use Rattle.mount_shown.specs.Pending.{KeepsFiles}

-- the fop has not begun a change: no change with an effect was handed in, and none is under way
abbrev pub HasNotBegun : Stage → Type 0
HasNotBegun Waiting = Unit {0}
HasNotBegun (Settled place) = Unit {0}
HasNotBegun (Changing u) = ⊥
HasNotBegun Bearing = Unit {0}
HasNotBegun (Decided number) = ⊥

pub record IsUnchanged (m : State) (c : ℕ) (run : Run) : Type 0 where
  pub runs : Runs m c run
  pub none : HaveNoEffect run.handed
  pub stage : HasNotBegun run.stage

-- the directory is not removed, and no unsettled change removes it
pub record IsKept (m : State) (dir : Gfid) : Type 0 where
  pub kept : is_removed (m.adopted 0 (names_cell dir)) ≡ false
  pub stays : (w : ℕ) → (m.changes w).verdict ≡ Unsettled → Removes (m.changes w).op dir → ⊥

-- the flat file system has the item, no unsettled change touches the name, and its directory is kept
pub record IsKnownHere (m : State) (dir : Gfid) (name : List ℕ) (gfid : Gfid) (k : Kind) : Type 0 where
  pub item : Item
  pub shown : item_named (names_at (volumes m).files dir) name ≡ Some item
  pub gfid_is : item.gfid ≡ gfid
  pub kind_is : item.kind ≡ k
  pub untouched : (w : ℕ) → (m.changes w).verdict ≡ Unsettled → Touches (m.changes w).op (m.changes w).effect dir name → ⊥
  pub kept : IsKept m dir

-- the flat file system has no such name, and no unsettled change touches a name of the directory
pub record IsKnownNowhere (m : State) (dir : Gfid) (name : List ℕ) : Type 0 where
  pub absent : item_named (names_at (volumes m).files dir) name ≡ None
  pub untouched : (w : ℕ) (other : List ℕ) → (m.changes w).verdict ≡ Unsettled → Touches (m.changes w).op (m.changes w).effect dir other → ⊥
  pub stays : (w : ℕ) → (m.changes w).verdict ≡ Unsettled → Removes (m.changes w).op dir → ⊥

-- A name that a fop has seen, in a directory that was made.
abbrev pub CallsKnowHere : Type 0
CallsKnowHere = (first : List (List ℕ)) (m : State) → IsReached first m → KeepsFiles m → (c : ℕ) (run : Run) → IsUnchanged m c run
    → (dir : Gfid) (name : List ℕ) (set : ℕ) (gfid : Gfid) (k : Kind) → m.kinds dir ≡ Some kind.Dir → SawName run.handed dir name set gfid k → IsKnownHere m dir name gfid k

-- A name that a fop has seen on no set of its graph.
abbrev pub CallsKnowNowhere : Type 0
CallsKnowNowhere = (first : List (List ℕ)) (m : State) → IsReached first m → KeepsFiles m → (c : ℕ) (run : Run) → IsUnchanged m c run
    → (dir : Gfid) (name : List ℕ) → m.kinds dir ≡ Some kind.Dir → SawNowhere run.volume.sets run.handed dir name → IsKnownNowhere m dir name
