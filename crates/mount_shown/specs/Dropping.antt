-- A change of a link that drops it is an unlink's or a rename's, of the name that the fop takes away, and is the fop's last job; and
-- what a rename drops before it moves, its move follows. Ours.
use Rattle.std.specs.Prelude.{◌≡◌, ℕ, List, Some, None}
use Rattle.dht_fops.specs.Courses.{Course}
use Rattle.dht_fops.specs.Courses.Course.{Asks, Extends, Ends}
use Rattle.dht_fops.specs.Fops.{fop_course}
use Rattle.dht_fops.specs.Volumes.{Kept}
use Rattle.dht_fops.specs.declared.volume.Volume.{Volume}
use Rattle.fop_types.specs.declared.cells.Gfid.{Gfid}
use Rattle.fop_types.specs.declared.fops.Fop.{Fop}
use Rattle.fop_types.specs.declared.fops.Fop.TheVariants as fop
use Rattle.fop_types.specs.declared.jobs.Job.{Job}
use Rattle.fop_types.specs.declared.jobs.Job.TheVariants as job
use Rattle.fop_types.specs.declared.jobs.SetReply.{SetReply}
use Rattle.fop_types.specs.declared.jobs.SetReply.TheVariants as reply
use Rattle.fop_types.specs.declared.store_ops.StoreOp.{StoreOp}
use Rattle.fop_types.specs.declared.store_ops.StoreOp.TheVariants as op

-- the fop takes this name away
abbrev pub TakesAway : Fop → Gfid → List ℕ → Type 0
TakesAway (fop.Unlink parent own) dir name = (parent.gfid ≡ dir) × (own ≡ name)
TakesAway (fop.Rename parent own target new_name) dir name = (parent.gfid ≡ dir) × (own ≡ name)
TakesAway other dir name = ⊥

abbrev pub IsEnd : Course → Type 0
IsEnd (Asks set asked next) = ⊥
IsEnd (Extends dir next) = ⊥
IsEnd (Ends answer place) = Unit {0}

abbrev pub IsLastDrop : Fop → StoreOp → (SetReply → Course) → Type 0
IsLastDrop f (op.DropName dir name) next = TakesAway f dir name × ((said : SetReply) → IsEnd (next said))
IsLastDrop f other next = Unit {0}

-- the move of the rename, or the birth of a copy first
abbrev pub IsMoveOf : Fop → Course → Type 0
IsMoveOf (fop.Rename parent own target new_name) (Asks set (job.Change cells fd (op.Move dir name to to_name) (Some entry)) next) = ((parent.gfid ≡ dir) × (own ≡ name)) × ((target.gfid ≡ to) × (new_name ≡ to_name))
IsMoveOf f course = ⊥

abbrev pub LeadsToMove : Fop → Course → Type 0
LeadsToMove f (Asks set (job.Birth cells o) next) = IsMoveOf f (next (reply.Decided None))
LeadsToMove f course = IsMoveOf f course

abbrev pub IsRenameThen : Fop → (SetReply → Course) → Type 0
IsRenameThen (fop.Rename parent own target new_name) next = LeadsToMove (fop.Rename parent own target new_name) (next (reply.Decided None))
IsRenameThen other next = Unit {0}

-- a file's name that a rename drops
abbrev pub IsBeforeMove : StoreOp → Fop → (SetReply → Course) → Type 0
IsBeforeMove (op.DropName dir name) f next = IsRenameThen f next
IsBeforeMove other f next = Unit {0}

abbrev pub IsDropInTurn : Fop → Job → (SetReply → Course) → Type 0
IsDropInTurn f (job.Change cells fd o None) next = IsLastDrop f o next
IsDropInTurn f (job.Change cells fd o (Some entry)) next = IsBeforeMove o f next
IsDropInTurn f (job.Read cells fd dir) next = Unit {0}
IsDropInTurn f (job.Birth cells o) next = Unit {0}
IsDropInTurn f (job.Open fd gfid) next = Unit {0}
IsDropInTurn f job.Index next = Unit {0}
IsDropInTurn f (job.Heal cell) next = Unit {0}

abbrev pub DropsInTurn : Fop → Course → Type 0
DropsInTurn f (Asks set asked next) = IsDropInTurn f asked next × ((said : SetReply) → DropsInTurn f (next said))
DropsInTurn f (Extends dir next) = DropsInTurn f next
DropsInTurn f (Ends answer place) = Unit {0}

-- Each fop does so, whatever the volume, the replies and the fop's values are.
abbrev pub FopsDropInTurn : Type 0
FopsDropInTurn = (v : Volume) (names : List (List ℕ)) (kept : Kept) (f : Fop) → DropsInTurn f (fop_course v names kept f)
