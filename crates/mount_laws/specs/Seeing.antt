-- What a fop knows between two jobs: what it saw still is so. Ours.
use Rattle.std.specs.Prelude.{◌≡◌, ◌⊎◌, ℕ, true, List, [], ◌∷◌, None}
use Rattle.afr_machine.specs.Touching.{has_cell}
use Rattle.afr_machine.specs.Transactions.{cells_of_job}
use Rattle.dht_fops.specs.Courses.{Course}
use Rattle.dht_fops.specs.Shown.{SetContents}
use Rattle.fop_types.specs.Bounds.{Each}
use Rattle.fop_types.specs.Jobs.{may_lack}
use Rattle.fop_types.specs.declared.cells.Cell.{Cell}
use Rattle.fop_types.specs.declared.jobs.Job.{Job}
use Rattle.fop_types.specs.declared.jobs.SetReply.{SetReply}
use Rattle.mount_laws.specs.Runs.{Run, SettledJob, Sight}
use Rattle.mount_laws.specs.Runs.Stage.{Settled}
use Rattle.mount_laws.specs.Settling.{HasNoNames}
use Rattle.mount_laws.specs.States.{State, Runs}

-- one of the settled jobs is this one
abbrev pub IsListed : List SettledJob → SettledJob → Type 0
IsListed [] done = ⊥
IsListed (one ∷ more) done = (one ≡ done) ⊎ IsListed more done

-- From the end of its settling until its change begins, a job is among the settled ones.
abbrev pub SettledIsListed : State → Type 0
SettledIsListed m = (c : ℕ) (run : Run) (place set : ℕ) (asked : Job) (next : SetReply → Course) → Runs m c run → run.stage ≡ Settled place → run.course ≡ Course.Asks set asked next
    → IsListed run.settled (record { set = set; cells = cells_of_job asked })

-- one of the settled jobs was of the cell
pub record WasSettled (jobs : List SettledJob) (set : ℕ) (cell : Cell) : Type 0 where
  pub cells : List Cell
  pub listed : IsListed jobs (record { set = set; cells = cells })
  pub has : has_cell cells cell ≡ true

-- a cell that was not shown has no names
abbrev pub IsStill : SetContents → Sight → Type 0
IsStill adopted sight = (adopted sight.set sight.cell ≡ sight.content) ⊎ ((sight.content ≡ None) × HasNoNames (adopted sight.set sight.cell))

-- only on a set after the first is a cell not shown
pub record StandsAsSeen (adopted : SetContents) (jobs : List SettledJob) (sight : Sight) : Type 0 where
  pub content : IsStill adopted sight
  pub lacks : sight.content ≡ None → may_lack sight.set true ≡ true
  pub settled : WasSettled jobs sight.set sight.cell

-- What a fop has read is what is adopted now, with its own changes since; each read was of a settled job.
abbrev pub SawStill : State → Type 0
SawStill m = (c : ℕ) (run : Run) → Runs m c run → Each (StandsAsSeen m.adopted run.settled) run.saw
