-- What makes a set one atomic store to a fop: at most one unsettled change touches a cell; once a job has settled its cells,
-- nobody but its own call changes them until the hold is released; what a read shows is what was adopted. Ours.
use Rattle.std.specs.Prelude.{◌≡◌, ◌≢◌, ◌⊎◌, ℕ, ◌<◌, true, false, List, [], Option, Some, None}
use Rattle.afr_machine.specs.Changes.Verdict.{Undrawn, Unsettled}
use Rattle.afr_machine.specs.Touching.{has_cell, share}
use Rattle.afr_machine.specs.Transactions.{cells_of_job, settles_first}
use Rattle.dht_fops.specs.Courses.{Course}
use Rattle.fop_types.specs.Bounds.{Each}
use Rattle.fop_types.specs.StoreOps.{items_of, is_removed, holds, needs}
use Rattle.fop_types.specs.declared.cells.Cell.{Cell}
use Rattle.fop_types.specs.declared.contents.Content.{Content}
use Rattle.fop_types.specs.declared.jobs.Job.{Job}
use Rattle.fop_types.specs.declared.jobs.SetReply.{SetReply}
use Rattle.mount_laws.specs.Guards.{Allowed, IsUnsettledOn, MaySettle}
use Rattle.mount_laws.specs.Holding.{AreHeldExclusively, drawn_by}
use Rattle.mount_laws.specs.Holds.{Holds}
use Rattle.mount_laws.specs.Runs.{Run, SettledJob}
use Rattle.mount_laws.specs.Runs.Stage.{Settled, Changing}
use Rattle.mount_laws.specs.States.{State, Change, Status, Runs, has_begun}
use Rattle.mount_laws.specs.Steps.{Step, Task, is_lookup, change_by, after}

-- ---- unsettled changes

-- At most one unsettled change touches a cell of a set.
abbrev pub OneUnsettled : State → Type 0
OneUnsettled m = (u w : ℕ) (cell : Cell) → (m.changes u).verdict ≡ Unsettled → (m.changes w).verdict ≡ Unsettled → (m.changes u).set ≡ (m.changes w).set
    → has_cell (m.changes u).cells cell ≡ true → has_cell (m.changes w).cells cell ≡ true → u ≡ w

-- The change that a job is about is unsettled, and is the one that the fop asked for.
pub record IsRunning (c : ℕ) (run : Run) (change : Change) : Type 0 where
  pub by : change.by ≡ c
  pub unsettled : change.verdict ≡ Unsettled
  pub asked : (set : ℕ) (asked : Job) (next : SetReply → Course) → run.course ≡ Course.Asks set asked next → change ≡ change_by c set asked

-- after a job's settling, an unsettled change on its cells is its own call's
abbrev pub IsSettledJob : ℕ → Change → SettledJob → Type 0
IsSettledJob c change done = IsUnsettledOn change done.set done.cells → change.by ≡ c

-- A fop under way beside a change. `own_is_held`: the fop's own unsettled change is of cells that its call holds exclusively.
-- `running_is_unsettled`: from its beginning to its decision the change of the fop's job is unsettled. `none_left`: from the end
-- of a job's settling until its change begins, none is unsettled on its cells, the call's own earlier ones among them.
-- `settled`: after a job's settling, each unsettled change on its cells is its own call's, until the hold is released; so
-- no change of another call on them is decided. `lookup`: a lookup makes none.
pub record StandsBeside (c : ℕ) (run : Run) (u : ℕ) (change : Change) : Type 0 where
  pub own_is_held : change.by ≡ c → change.verdict ≡ Unsettled → AreHeldExclusively run.holds change.cells
  pub running_is_unsettled : run.stage ≡ Changing u → IsRunning c run change
  pub none_left : (place set : ℕ) (asked : Job) (next : SetReply → Course) → run.stage ≡ Settled place → run.course ≡ Course.Asks set asked next → settles_first asked ≡ true
      → IsUnsettledOn change set (cells_of_job asked) → ⊥
  pub settled : Each (IsSettledJob c change) run.settled
  pub lookup : is_lookup run.fop ≡ true → change.by ≡ c → change.verdict ≡ Undrawn

-- Each fop under way beside each change; and a call that has not begun its own fop has made none.
pub record EachStandsBeside (m : State) : Type 0 where
  pub running : (c : ℕ) (run : Run) → Runs m c run → (u : ℕ) → StandsBeside c run u (m.changes u)
  pub unbegun : (c : ℕ) → has_begun (m.calls c).status ≡ false → (u : ℕ) → (m.changes u).by ≡ c → (m.changes u).verdict ≡ Undrawn

-- The change of a fop's job is decided by that job alone.
abbrev pub RunningIsAlone : State → Type 0
RunningIsAlone m = (c : ℕ) (run : Run) (t : Task) (u : ℕ) → Runs m c run → run.stage ≡ Changing u → MaySettle m t u → ⊥

-- While a fop is under way, no job of another call decides a change of its call.
abbrev pub OwnDecided : State → Type 0
OwnDecided m = (c : ℕ) (run : Run) (t : Task) (u : ℕ) → c ≢ t.call → Runs m c run → (m.changes u).by ≡ c → MaySettle m t u → ⊥

-- Calls are numbered from 1 as far as they were submitted.
abbrev pub AreNumbered : State → Type 0
AreNumbered m = (c : ℕ) → m.submitted < c → (m.calls c).status ≡ Status.Unsubmitted

-- ---- settled jobs

-- the job is a read or a change that settles or has settled, on a set and its cells
pub record IsAtWork (m : State) (c : ℕ) (run : Run) (set : ℕ) (cells : List Cell) : Type 0 where
  pub runs : Runs m c run
  pub asked : Job
  pub next : SetReply → Course
  pub asks : run.course ≡ Course.Asks set asked next
  pub settles : settles_first asked ≡ true
  pub cells_are : cells ≡ cells_of_job asked

-- From a job's asking to the end of its hold no other call's change becomes unsettled on its cells.
pub record SettlingEnds (m : State) : Type 0 where
  pub asked : (c : ℕ) (run : Run) (cells : List Cell) (t : Task) (u : ℕ) → c ≢ t.call → Allowed m (Step.BeginsChange t u) → IsAtWork m c run t.set cells → share (cells_of_job t.job) cells ≡ false
  pub settled : (c : ℕ) (run : Run) (t : Task) (u : ℕ) → c ≢ t.call → Allowed m (Step.BeginsChange t u) → Runs m c run → Each (λ (done : SettledJob). share (cells_of_job t.job) done.cells ≡ false) run.settled

-- While a call holds an object, no other call gives birth to a cell of it, unless it is the object that the other's fop makes.
abbrev pub BirthsApart : State → Type 0
BirthsApart m = (c : ℕ) (run : Run) (t : Task) (cell : Cell) → c ≢ t.call → Runs m c run → Holds run.holds cell.gfid → Allowed m (Step.SendsBirths t) → has_cell (cells_of_job t.job) cell ≡ true → drawn_by t.run.fop ≡ Some cell.gfid

-- no names, and not removed
pub record HasNoNames (content : Option Content) : Type 0 where
  pub none : items_of content ≡ []
  pub kept : is_removed content ≡ false

-- the content of a cell stays, or a cell that was absent is born
abbrev pub StaysOrBorn : Option Content → Option Content → Type 0
StaysOrBorn old new = (new ≡ old) ⊎ ((old ≡ None) × HasNoNames new)

-- a step of the call's own job that changes what is adopted
abbrev pub IsStepOf : ℕ → Step → Type 0
IsStepOf c (Step.Settles t u adopts) = t.call ≡ c
IsStepOf c (Step.Decides t u) = t.call ≡ c
IsStepOf c other = ⊥

-- No step of another call changes what is adopted on the cells of a settled job, but for the birth of an absent cell, which
-- has no names: so a read's content is what was adopted when its settling ended and is adopted when it is answered.
abbrev pub LeavesSettled : State → State → SettledJob → Type 0
LeavesSettled m new done = (cell : Cell) → has_cell done.cells cell ≡ true → StaysOrBorn (m.adopted done.set cell) (new.adopted done.set cell)

abbrev pub ReadIsAdopted : State → Type 0
ReadIsAdopted m = (c : ℕ) (run : Run) (step : Step) → Allowed m step → (IsStepOf c step → ⊥) → Runs m c run → Each (LeavesSettled m (after m step)) run.settled

-- ---- firm cells

-- A change is of the cells that its op needs.
abbrev pub AreWhole : State → Type 0
AreWhole m = (u : ℕ) → (m.changes u).verdict ≢ Undrawn → (m.changes u).cells ≡ needs (m.changes u).op

-- Each cell of a change is firm from the moment on at which the change becomes unsettled. A cell that is not firm has no names
-- and is not removed: to a fop, whether a read showed it or not says the same.
pub record TouchedIsFirm (m : State) : Type 0 where
  pub touched : (u : ℕ) (cell : Cell) → (m.changes u).verdict ≢ Undrawn → has_cell (m.changes u).cells cell ≡ true → m.firm (m.changes u).set cell ≡ true
  pub no_names : (set : ℕ) (cell : Cell) → m.firm set cell ≡ false → HasNoNames (m.adopted set cell)

-- A firm cell is present, with a content of its aspect.
abbrev pub FirmIsPresent : State → Type 0
FirmIsPresent m = (set : ℕ) (cell : Cell) → m.firm set cell ≡ true → holds cell.aspect (m.adopted set cell) ≡ true
