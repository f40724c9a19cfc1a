-- What every state of the mount keeps of the files of all sets: they are the flat file system after the history, each unsettled
-- change fits, and any two of them are apart; so they fit in any order. Ours.
use Rattle.std.specs.Prelude.{◌≡◌, ◌≢◌, ℕ, List, Some, None}
use Rattle.afr_machine.specs.Changes.Verdict.{Unsettled}
use Rattle.dht_fops.specs.Answers.{Accepts, flat_op}
use Rattle.dht_fops.specs.Standing.{Volumes}
use Rattle.fop_types.specs.declared.fops.Fop.{Fop}
use Rattle.fop_types.specs.declared.jobs.Job.{Job}
use Rattle.fop_types.specs.declared.jobs.Job.TheVariants as job
use Rattle.mount_files.specs.Pairs.{AreApart, Fits}
use Rattle.mount_files.specs.Showing.{ShownIsFlat}
use Rattle.mount_laws.specs.Guards.{Allowed, IsReached}
use Rattle.mount_laws.specs.Laws.{EveryState}
use Rattle.mount_laws.specs.Objects.{volumes}
use Rattle.mount_laws.specs.States.{State, Change, set_count}
use Rattle.mount_laws.specs.Steps.{Step, Task, change_by}
use Rattle.mount_shown.specs.Bridge.{op_of}

-- each unsettled change fits, were it decided as adopted now
abbrev pub ArePossible : Volumes → ℕ → (ℕ → Change) → Type 0
ArePossible s count changes = (u : ℕ) → (changes u).verdict ≡ Unsettled → Fits s count (op_of (changes u))

-- two of them touch no common name, and neither a name in a directory that the other removes
abbrev pub ArePairsApart : (ℕ → Change) → Type 0
ArePairsApart changes = (u w : ℕ) → u ≢ w → (changes u).verdict ≡ Unsettled → (changes w).verdict ≡ Unsettled → AreApart (op_of (changes u)) (op_of (changes w))

pub record FilesStand (s : Volumes) (count : ℕ) (changes : ℕ → Change) : Type 0 where
  pub shown : ShownIsFlat s count
  pub alone : ArePossible s count changes
  pub apart : ArePairsApart changes

-- The sets show the flat file system after the history, and each unsettled change is one that it accepts, whatever the others come
-- to.
abbrev pub KeepsFiles : State → Type 0
KeepsFiles m = FilesStand (volumes m) (set_count m) m.changes

-- ---- the change that a job begins

-- it fits, and is apart from every unsettled change
pub record BeginsWell (m : State) (t : Task) : Type 0 where
  pub fits : Fits (volumes m) (set_count m) (op_of (change_by t.call t.set t.job))
  pub apart : (w : ℕ) → (m.changes w).verdict ≡ Unsettled → AreApart (op_of (change_by t.call t.set t.job)) (op_of (m.changes w))

-- Every change that a job begins does so, whichever fop asks for it.
abbrev pub EveryChangeBeginsWell : Type 0
EveryChangeBeginsWell = (first : List (List ℕ)) (m : State) → IsReached first m → (t : Task) (u : ℕ) → Allowed m (Step.BeginsChange t u) → BeginsWell m t

-- where a change with an effect begins, the flat file system accepts the fop's own operation, of which the change may be a part
abbrev pub IsPossibleFor : State → Fop → Job → Type 0
IsPossibleFor m f (job.Change cells fd o (Some entry)) = Accepts (volumes m).files (flat_op f)
IsPossibleFor m f (job.Change cells fd o None) = Unit {0}
IsPossibleFor m f (job.Read cells fd dir) = Unit {0}
IsPossibleFor m f (job.Birth cells o) = Unit {0}
IsPossibleFor m f (job.Open fd gfid) = Unit {0}
IsPossibleFor m f job.Index = Unit {0}
IsPossibleFor m f (job.Heal cell) = Unit {0}

abbrev pub EveryFopIsPossible : Type 0
EveryFopIsPossible = (first : List (List ℕ)) (m : State) → IsReached first m → (t : Task) (u : ℕ) → Allowed m (Step.BeginsChange t u) → IsPossibleFor m t.run.fop t.job

abbrev pub EveryStateKeepsFiles : Type 0
EveryStateKeepsFiles = EveryState KeepsFiles
