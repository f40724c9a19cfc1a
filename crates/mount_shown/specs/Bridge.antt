-- The files of all sets in a state of the mount, and what a step makes of them: an op of a set, or nothing. Ours.
use Rattle.std.specs.Prelude.{◌≡◌, ℕ, ◌≤◌, true, false, List, length, None}
use Rattle.dht_fops.specs.Standing.{Volumes}
use Rattle.fop_types.specs.declared.jobs.Job.{Job}
use Rattle.fop_types.specs.declared.jobs.Job.TheVariants as job
use Rattle.fop_types.specs.declared.store_ops.StoreOp.{StoreOp}
use Rattle.fop_types.specs.declared.store_ops.StoreOp.TheVariants as op
use Rattle.mount_files.specs.Pairs.{OpOn, after as after_on}
use Rattle.mount_files.specs.Showing.{ShownIsFlat}
use Rattle.mount_laws.specs.Graphs.{FirstSets}
use Rattle.mount_laws.specs.Objects.{volumes}
use Rattle.mount_laws.specs.States.{State, Change, start}
use Rattle.mount_laws.specs.Steps.{Step, after}

-- a change as an op on its set
abbrev pub op_of : Change → OpOn
op_of change = record { set = change.set; op = change.op; effect = change.effect }

-- a birth alone as an op on its set
abbrev pub birth_on : ℕ → StoreOp → OpOn
birth_on set o = record { set = set; op = o; effect = None }

-- a job that gives birth to a copy, as each birth of a fop does
abbrev pub AreAfterBirths : Volumes → ℕ → Job → Volumes → Type 0
AreAfterBirths s set (job.Birth cells (op.MakeCopy gfid span)) new = new ≡ after_on s (birth_on set (op.MakeCopy gfid span))
AreAfterBirths s set other new = Unit {0}

-- What the sets show after a step: what the op of the change that the step adopts makes of it, or a birth; after each other
-- step the same.
abbrev pub IsAfter : State → Step → Volumes → Type 0
IsAfter m (Step.Settles t u true) new = new ≡ after_on (volumes m) (op_of (m.changes u))
IsAfter m (Step.Settles t u false) new = new ≡ volumes m
IsAfter m (Step.Decides t u) new = new ≡ after_on (volumes m) (op_of (m.changes u))
IsAfter m (Step.SendsBirths t) new = AreAfterBirths (volumes m) t.set t.job new
IsAfter m other new = new ≡ volumes m

abbrev pub StepsAreOps : Type 0
StepsAreOps = (m : State) (step : Step) → IsAfter m step (volumes (after m step))

-- At the start the sets show the root alone.
abbrev pub StartIsEmpty : Type 0
StartIsEmpty = (names : List (List ℕ)) → 1 ≤ length names → ShownIsFlat (volumes (start names)) (length names)

-- ---- more sets and fewer

abbrev pub MoreSetsShow : Type 0
MoreSetsShow = (s : Volumes) (few many : ℕ) → few ≤ many → ShownIsFlat s few → ShownIsFlat s many

-- with nothing beyond the first sets, these show all files
abbrev pub FirstSetsShow : Type 0
FirstSetsShow = (m : State) (count many : ℕ) → FirstSets m count → count ≤ many → ShownIsFlat (volumes m) many → ShownIsFlat (volumes m) count
