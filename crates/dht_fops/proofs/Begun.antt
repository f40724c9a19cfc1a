-- How a rename begins.
use Rattle.std.proofs.Common.{◌≡◌, ℕ, List, Option, refl}
use Rattle.dht_fops.specs.Fops.{renames}
use Rattle.dht_fops.specs.Volumes.{Kept, known_set}
use Rattle.dht_fops.specs.code.Begins.{begins}
use Rattle.dht_fops.specs.declared.purpose.Purpose.TheVariants as purpose
use Rattle.dht_fops.specs.declared.volume.Volume.{Volume}
use Rattle.fop_types.specs.declared.fops.Object.{Object}

pub begins_rename : (v : Volume) (names : List (List ℕ)) (kept : Kept) (parent : Object) (name : List ℕ) (target : Object) (new_name : List ℕ) (second : Option ℕ) → second ≡ known_set v kept target.gfid new_name
    → begins v names kept parent name (purpose.RenameFrom target new_name second) ≡ renames v names kept parent name target new_name
begins_rename v names kept parent name target new_name second e = rw e refl
