-- What the holds give: no two of them conflict, each job is of objects that its call holds, and a job that changes holds them
-- exclusively. Ours.
use Rattle.std.specs.Prelude.{◌≡◌, ◌≢◌, ◌⊎◌, ℕ, true, false, List, ◌++◌, Option, Some, None}
use Rattle.dht_fops.specs.Courses.{Course}
use Rattle.dht_fops.specs.Handed.{Handed}
use Rattle.fop_types.specs.Bounds.{Each}
use Rattle.fop_types.specs.Jobs.{cells_of}
use Rattle.fop_types.specs.Names.{is_directory}
use Rattle.fop_types.specs.StoreOps.{needs, births}
use Rattle.fop_types.specs.declared.cells.Cell.{Cell}
use Rattle.fop_types.specs.declared.cells.Gfid.{Gfid}
use Rattle.fop_types.specs.declared.fops.Fop.{Fop}
use Rattle.fop_types.specs.declared.fops.Fop.TheVariants as fop
use Rattle.fop_types.specs.declared.jobs.Job.{Job}
use Rattle.fop_types.specs.declared.jobs.Job.TheVariants as job
use Rattle.fop_types.specs.declared.jobs.SetReply.{SetReply}
use Rattle.fop_types.specs.declared.store_ops.StoreOp.{StoreOp}
use Rattle.fop_types.specs.declared.store_ops.StoreOp.TheVariants as op
use Rattle.mount_laws.specs.Guards.{NeedsNoMore}
use Rattle.mount_laws.specs.Holds.{Hold, Holds, HoldsExclusively, AreApart, holds_of, extensions}
use Rattle.mount_laws.specs.Runs.{Run, SettledJob, Leads, first_course}
use Rattle.mount_laws.specs.States.{State, Runs, held}
use Rattle.mount_laws.specs.Steps.{is_lookup}

-- Holds of different calls do not conflict.
abbrev pub HoldsApart : State → Type 0
HoldsApart m = (a b : ℕ) → a ≢ b → AreApart (held m a) (held m b)

-- what a fop holds by its kind, and the directories by which its hold was extended
abbrev pub own_holds : Fop → Handed → List Hold
own_holds f handed = holds_of f ++ extensions handed

-- the first holds are of all objects of the others, and exclusive where those are
pub record AreAmong (hs ks : List Hold) : Type 0 where
  pub held : (gfid : Gfid) → Holds ks gfid → Holds hs gfid
  pub exclusively : (gfid : Gfid) → HoldsExclusively ks gfid → HoldsExclusively hs gfid

-- an object that is held by its kind is held, or no further job of the fop needs it; and nothing else is held
abbrev pub HoldsEnough : Run → List Hold → Type 0
HoldsEnough run own =
    ((gfid : Gfid) → Holds own gfid → Holds run.holds gfid ⊎ NeedsNoMore gfid run.handed run.course)
    × (((gfid : Gfid) → HoldsExclusively own gfid → HoldsExclusively run.holds gfid ⊎ NeedsNoMore gfid run.handed run.course)
    × AreAmong own run.holds)

-- A call holds what its fop's kind says, and the directories by which it was extended, as long as its fop needs them.
abbrev pub HoldsOwn : State → Type 0
HoldsOwn m = (c : ℕ) (run : Run) → Runs m c run → HoldsEnough run (own_holds run.fop run.handed)

-- ---- jobs

-- the object that a fop makes
abbrev pub drawn_by : Fop → Option Gfid
drawn_by (fop.Mkdir parent name mode drawn) = Some drawn
drawn_by (fop.Create fd parent name mode drawn) = Some drawn
drawn_by other = None

-- The job under way is what the fop's course asks for, after what was handed in.
abbrev pub JobAsked : State → Type 0
JobAsked m = (c : ℕ) (run : Run) → Runs m c run → Leads (first_course run) run.handed run.course

-- the objects of the cells are held; a birth may be of the object that the fop makes, which nobody else knows
abbrev pub AreHeld : List Hold → List Cell → Type 0
AreHeld hs cells = Each (λ (cell : Cell). Holds hs cell.gfid) cells

abbrev pub AreHeldExclusively : List Hold → List Cell → Type 0
AreHeldExclusively hs cells = Each (λ (cell : Cell). HoldsExclusively hs cell.gfid) cells

abbrev pub AreHeldOrDrawn : List Hold → Option Gfid → List Cell → Type 0
AreHeldOrDrawn hs drawn cells = Each (λ (cell : Cell). HoldsExclusively hs cell.gfid ⊎ (drawn ≡ Some cell.gfid)) cells

-- a change is of cells that are held exclusively, those that its op needs; a lookup makes none
pub record IsHeldChange (hs : List Hold) (f : Fop) (cells : List Cell) (o : StoreOp) : Type 0 where
  pub alone : AreHeldExclusively hs cells
  pub whole : cells ≡ needs o
  pub no_lookup : is_lookup f ≡ false

abbrev pub IsCopyOf : Gfid → StoreOp → Type 0
IsCopyOf gfid (op.MakeCopy other span) = other ≡ gfid
IsCopyOf gfid other = ⊥

-- a birth is of the directory that a mkdir makes, or of a rename's new parent
abbrev pub IsBornBy : Fop → StoreOp → Type 0
IsBornBy (fop.Mkdir parent name mode drawn) o = IsCopyOf drawn o
IsBornBy (fop.Rename parent name target new_name) o = IsCopyOf target.gfid o × (is_directory target.kind ≡ true)
IsBornBy other o = ⊥

-- A read's cells are of objects that are held; those of a change or a birth are held exclusively, births of the drawn
-- object apart. A birth's are those to which its op gives a content, of a directory that the fop makes or names.
abbrev pub IsHeldFor : List Hold → Fop → Job → Type 0
IsHeldFor hs f (job.Read cells fd dir) = AreHeld hs cells
IsHeldFor hs f (job.Change cells fd o effect) = IsHeldChange hs f cells o
IsHeldFor hs f (job.Birth cells o) = AreHeldOrDrawn hs (drawn_by f) cells × ((cells ≡ cells_of (births o)) × IsBornBy f o)
IsHeldFor hs f (job.Open fd gfid) = Unit {0}
IsHeldFor hs f job.Index = Unit {0}
IsHeldFor hs f (job.Heal cell) = Unit {0}

-- each job of a fop, after what was handed in before it
abbrev pub IsCovered : Fop → Handed → ℕ → Job → Type 0
IsCovered f handed set asked = IsHeldFor (own_holds f handed) f asked

-- The job that a fop asks for is covered by its call's hold, from the asking on, and so is each job whose settling has ended
-- under it.
pub record HoldCovers (m : State) : Type 0 where
  pub asked : (c : ℕ) (run : Run) (set : ℕ) (asked : Job) (next : SetReply → Course) → Runs m c run → run.course ≡ Course.Asks set asked next → IsHeldFor run.holds run.fop asked
  pub settled : (c : ℕ) (run : Run) → Runs m c run → Each (λ (done : SettledJob). AreHeld run.holds done.cells) run.settled
