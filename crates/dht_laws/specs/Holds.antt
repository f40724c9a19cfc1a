-- By which directory a call's hold is extended: only rmdir extends it, by the directory that it removes, which a set showed
-- under the name in the directory that is held. (That a directory is held while it is removed is ours.)
use Rattle.std.specs.Prelude.{◌≡◌, ℕ, ◌≤◌, List, [], length}
use Rattle.dht_fops.specs.Fops.{fop_course}
use Rattle.dht_fops.specs.Handed.{Handed, Always, AnyJob, AnyAnswer, SawName}
use Rattle.dht_fops.specs.Volumes.{Kept}
use Rattle.dht_fops.specs.declared.volume.Volume.{Volume}
use Rattle.fop_types.specs.declared.cells.Gfid.{Gfid}
use Rattle.fop_types.specs.declared.cells.Kind.TheVariants as kind
use Rattle.fop_types.specs.declared.fops.Fop.{Fop}
use Rattle.fop_types.specs.declared.fops.Fop.TheVariants as fop
use Rattle.fop_types.specs.declared.fops.Object.{Object}

-- the directory that the fop removes, as a set showed it
pub record IsOwnHold (f : Fop) (handed : Handed) (dir : Gfid) : Type 0 where
  pub parent : Object
  pub name : List ℕ
  pub is_rmdir : f ≡ fop.Rmdir parent name
  pub set : ℕ
  pub saw : SawName handed parent.gfid name set dir kind.Dir

-- Each extension of a fop's hold is by this directory, whatever the replies are and the layouts that are kept.
abbrev pub FopsExtendHolds : Type 0
FopsExtendHolds = (v : Volume) (names : List (List ℕ)) (kept : Kept) (f : Fop) → 1 ≤ v.root_sets → v.root_sets ≤ v.sets → length names ≡ v.sets
    → Always AnyJob (IsOwnHold f) AnyAnswer [] (fop_course v names kept f)
