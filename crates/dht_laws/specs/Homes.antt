-- On which set a fop reads and changes. A file's bytes, mode and attributes are on the set that has the file; a directory's
-- mode and attributes are those of the first set, where the directory is removed too; each other cell of a job is a
-- directory's, which has a copy on every set. (cluster/distribute: the subvolume of a file is the one that has it.)
use Rattle.std.specs.Prelude.{◌≡◌, ◌⊎◌, ℕ, ◌≤◌, true, false, List, [], ◌∷◌, length, Some, None}
use Rattle.dht_fops.specs.Fops.{fop_course}
use Rattle.dht_fops.specs.Handed.{Handed, Always, AnyHold, AnyAnswer, SawName}
use Rattle.dht_laws.specs.Links.{IsMadeBy}
use Rattle.dht_fops.specs.Volumes.{Kept}
use Rattle.dht_fops.specs.declared.volume.Volume.{Volume}
use Rattle.fop_types.specs.Bounds.{Each}
use Rattle.fop_types.specs.Names.{is_directory}
use Rattle.fop_types.specs.declared.cells.Cell.{Cell}
use Rattle.fop_types.specs.declared.cells.Gfid.{Gfid}
use Rattle.fop_types.specs.declared.cells.Kind.TheVariants as kind
use Rattle.fop_types.specs.declared.fops.Fop.{Fop}
use Rattle.fop_types.specs.declared.fops.Fop.TheVariants as fop
use Rattle.fop_types.specs.declared.fops.Object.{Object}
use Rattle.fop_types.specs.declared.fops.OpenFd.{OpenFd}
use Rattle.fop_types.specs.declared.jobs.Job.{Job}
use Rattle.fop_types.specs.declared.jobs.Job.TheVariants as job
use Rattle.fop_types.specs.declared.store_ops.StoreOp.{StoreOp}
use Rattle.fop_types.specs.declared.store_ops.StoreOp.TheVariants as op

-- ---- objects

-- the fop names the object
abbrev pub IsNamedBy : Fop → Object → Type 0
IsNamedBy (fop.Lookup parent name) object = object ≡ parent
IsNamedBy (fop.Mkdir parent name mode drawn) object = object ≡ parent
IsNamedBy (fop.Rmdir parent name) object = object ≡ parent
IsNamedBy (fop.Create fd parent name mode drawn) object = object ≡ parent
IsNamedBy (fop.Unlink parent name) object = object ≡ parent
IsNamedBy (fop.Rename parent name target new_name) object = (object ≡ parent) ⊎ (object ≡ target)
IsNamedBy (fop.Open fd own) object = object ≡ own
IsNamedBy (fop.Stat own) object = object ≡ own
IsNamedBy (fop.List own) object = object ≡ own
IsNamedBy (fop.Chmod own mode) object = object ≡ own
IsNamedBy (fop.Truncate own size) object = object ≡ own
IsNamedBy (fop.SetAttr own attr) object = object ≡ own
IsNamedBy (fop.GetAttr own name) object = object ≡ own
IsNamedBy (fop.DelAttr own name) object = object ≡ own
IsNamedBy (fop.Read fd own offset count) object = object ≡ own
IsNamedBy (fop.Write fd own offset bytes) object = object ≡ own
IsNamedBy (fop.Migrate fds) object = ⊥
IsNamedBy (fop.Heal count) object = ⊥

-- the set of an object's mode and attributes
pub record IsHome (object : Object) (set : ℕ) : Type 0 where
  pub directory : is_directory object.kind ≡ true → set ≡ 0
  pub file : is_directory object.kind ≡ false → set ≡ object.set

-- an object of the fop, with its home
pub record IsOwnAtHome (f : Fop) (set : ℕ) (gfid : Gfid) : Type 0 where
  pub object : Object
  pub named : IsNamedBy f object
  pub gfid_is : object.gfid ≡ gfid
  pub at_home : IsHome object set

-- a file of the fop, on the set that has it
pub record IsFileOn (f : Fop) (set : ℕ) (gfid : Gfid) : Type 0 where
  pub object : Object
  pub named : IsNamedBy f object
  pub gfid_is : object.gfid ≡ gfid
  pub is_file : is_directory object.kind ≡ false
  pub set_is : set ≡ object.set

-- a directory that the fop names
pub record IsOwnDir (f : Fop) (gfid : Gfid) : Type 0 where
  pub object : Object
  pub named : IsNamedBy f object
  pub gfid_is : object.gfid ≡ gfid
  pub is_dir : is_directory object.kind ≡ true

-- a directory that a set showed under a name
pub record SawDirectory (handed : Handed) (gfid : Gfid) : Type 0 where
  pub parent : Gfid
  pub name : List ℕ
  pub set : ℕ
  pub saw : SawName handed parent name set gfid kind.Dir

-- a directory that the fop names, one that a set showed, or the one that the fop makes
abbrev pub IsDirectoryOf : Fop → Handed → Gfid → Type 0
IsDirectoryOf f handed gfid = IsOwnDir f gfid ⊎ (SawDirectory handed gfid ⊎ IsMadeBy f gfid)

-- ---- the cells of a job

abbrev pub IsInPlace : Fop → Handed → ℕ → Gfid → Type 0
IsInPlace f handed set gfid = IsFileOn f set gfid ⊎ IsDirectoryOf f handed gfid

-- each is a file's on the set that has it, or a directory's
abbrev pub AreInPlace : Fop → Handed → ℕ → List Cell → Type 0
AreInPlace f handed set cells = Each (λ (cell : Cell). IsInPlace f handed set cell.gfid) cells

-- ---- jobs

-- what is read of the object at hand is read at its home
abbrev pub IsReadAt : Fop → ℕ → Type 0
IsReadAt (fop.Stat object) set = IsHome object set
IsReadAt (fop.GetAttr object name) set = IsHome object set
IsReadAt (fop.DelAttr object name) set = IsHome object set
IsReadAt (fop.Read fd object offset count) set = set ≡ object.set
IsReadAt other set = Unit {0}

-- By the change: an object's mode and attributes are changed at its home, a file's bytes on the set that has it; a directory
-- is removed on the first set. On which set a name is added, dropped and moved is said elsewhere (Additions, Founded).
abbrev pub IsChangedAt : Fop → ℕ → StoreOp → Type 0
IsChangedAt f set (op.Write gfid offset bytes) = IsFileOn f set gfid
IsChangedAt f set (op.Truncate gfid size) = IsFileOn f set gfid
IsChangedAt f set (op.SetMode gfid mode) = IsOwnAtHome f set gfid
IsChangedAt f set (op.SetAttr gfid attr) = IsOwnAtHome f set gfid
IsChangedAt f set (op.DelAttr gfid name) = IsOwnAtHome f set gfid
IsChangedAt f set (op.AddName parent item mode span) = Unit {0}
IsChangedAt f set (op.DropName parent name) = Unit {0}
IsChangedAt f set (op.DropDir parent name gfid) = set ≡ 0
IsChangedAt f set (op.Move parent name target new_name) = Unit {0}
IsChangedAt f set (op.MakeCopy gfid span) = ⊥

-- one of the descriptors, with its file, on the set that has the file
abbrev pub IsOneOf : List OpenFd → ℕ → ℕ → Gfid → Type 0
IsOneOf [] set fd gfid = ⊥
IsOneOf (one ∷ fds) set fd gfid = ((one.set ≡ set) × (one.fd ≡ fd) × (one.gfid ≡ gfid)) ⊎ IsOneOf fds set fd gfid

abbrev pub IsOpenedAt : Fop → ℕ → ℕ → Gfid → Type 0
IsOpenedAt (fop.Open own object) set fd gfid = (set ≡ object.set) × (fd ≡ own) × (gfid ≡ object.gfid)
IsOpenedAt (fop.Migrate fds) set fd gfid = IsOneOf fds set fd gfid
IsOpenedAt other set fd gfid = ⊥

abbrev pub IsJobAtHome : Fop → Handed → ℕ → Job → Type 0
IsJobAtHome f handed set (job.Read cells fd dir) = IsReadAt f set × AreInPlace f handed set cells
IsJobAtHome f handed set (job.Change cells fd o (Some entry)) = IsChangedAt f set o × AreInPlace f handed set cells
IsJobAtHome f handed set (job.Change cells fd o None) = AreInPlace f handed set cells
IsJobAtHome f handed set (job.Birth cells o) = AreInPlace f handed set cells
IsJobAtHome f handed set (job.Open fd gfid) = IsOpenedAt f set fd gfid
IsJobAtHome f handed set job.Index = Unit {0}
IsJobAtHome f handed set (job.Heal cell) = Unit {0}

-- Each job of a fop is on the set of what it reads or changes, whatever the replies are and the layouts that are kept.
abbrev pub FopsChangeOnSets : Type 0
FopsChangeOnSets = (v : Volume) (names : List (List ℕ)) (kept : Kept) (f : Fop) → 1 ≤ v.root_sets → v.root_sets ≤ v.sets → length names ≡ v.sets
    → Always (IsJobAtHome f) AnyHold AnyAnswer [] (fop_course v names kept f)
