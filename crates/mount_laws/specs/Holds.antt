-- What a fop holds from its start to its answer: directories and files by their gfids, each exclusively or shared. Two holds
-- of one object agree where both are shared. Ours.
use Rattle.std.specs.Prelude.{◌≡◌, ◌⊎◌, Bool, true, false, List, [], ◌∷◌, if◌then◌else◌}
use Rattle.std.specs.Ordering.{is_eq}
use Rattle.dht_fops.specs.Handed.{Handed}
use Rattle.dht_fops.specs.Handed.Event.{Replied, Held}
use Rattle.fop_types.specs.Orders.{gfid_cmp}
use Rattle.fop_types.specs.declared.cells.Gfid.{Gfid}
use Rattle.fop_types.specs.declared.fops.Fop.{Fop}
use Rattle.fop_types.specs.declared.fops.Fop.TheVariants as fop
use Rattle.fop_types.specs.declared.fops.Object.{Object}

pub record Hold : Type 0 where
  pub gfid : Gfid
  pub shared : Bool

abbrev pub shared_on : Object → Hold
shared_on object = record { gfid = object.gfid; shared = true }

abbrev pub exclusive_on : Object → Hold
exclusive_on object = record { gfid = object.gfid; shared = false }

-- what a fop holds when it begins; the fops of the mount itself hold nothing
abbrev pub holds_of : Fop → List Hold
holds_of (fop.Lookup parent name) = shared_on parent ∷ []
holds_of (fop.Mkdir parent name mode drawn) = exclusive_on parent ∷ []
holds_of (fop.Rmdir parent name) = exclusive_on parent ∷ []
holds_of (fop.Create fd parent name mode drawn) = exclusive_on parent ∷ []
holds_of (fop.Unlink parent name) = exclusive_on parent ∷ []
holds_of (fop.Rename parent name target new_name) = exclusive_on parent ∷ exclusive_on target ∷ []
holds_of (fop.Open fd object) = shared_on object ∷ []
holds_of (fop.Stat object) = shared_on object ∷ []
holds_of (fop.List object) = shared_on object ∷ []
holds_of (fop.Chmod object mode) = exclusive_on object ∷ []
holds_of (fop.Truncate object size) = exclusive_on object ∷ []
holds_of (fop.SetAttr object attr) = exclusive_on object ∷ []
holds_of (fop.GetAttr object name) = shared_on object ∷ []
holds_of (fop.DelAttr object name) = exclusive_on object ∷ []
holds_of (fop.Read fd object offset count) = shared_on object ∷ []
holds_of (fop.Write fd object offset bytes) = exclusive_on object ∷ []
holds_of (fop.Migrate fds) = []
holds_of (fop.Heal count) = []

-- the directories by which the hold was extended since
abbrev pub extensions : Handed → List Hold
extensions [] = []
extensions (Replied set job reply ∷ handed) = extensions handed
extensions (Held dir ∷ handed) = record { gfid = dir; shared = false } ∷ extensions handed

-- ---- what is held

-- one of the holds is of the object
abbrev pub Holds : List Hold → Gfid → Type 0
Holds [] gfid = ⊥
Holds (h ∷ hs) gfid = (h.gfid ≡ gfid) ⊎ Holds hs gfid

abbrev pub IsExclusive : Hold → Gfid → Type 0
IsExclusive h gfid = (h.gfid ≡ gfid) × (h.shared ≡ false)

-- one of the holds is of the object, and is exclusive
abbrev pub HoldsExclusively : List Hold → Gfid → Type 0
HoldsExclusively [] gfid = ⊥
HoldsExclusively (h ∷ hs) gfid = IsExclusive h gfid ⊎ HoldsExclusively hs gfid

-- the holds but those of an object
abbrev pub holds_without : Gfid → List Hold → List Hold
holds_without gfid [] = []
holds_without gfid (h ∷ hs) = if is_eq (gfid_cmp h.gfid gfid) then holds_without gfid hs else h ∷ holds_without gfid hs

-- of no object that both hold one of the two holds exclusively
pub record AreApart (hs ks : List Hold) : Type 0 where
  pub first : (gfid : Gfid) → HoldsExclusively hs gfid → Holds ks gfid → ⊥
  pub second : (gfid : Gfid) → Holds hs gfid → HoldsExclusively ks gfid → ⊥
