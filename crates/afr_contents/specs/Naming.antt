-- Whom the clears of a transaction may name: from whom it may copy, and to whom it has copied. Ours.
use Rattle.std.specs.Prelude.{◌≡◌, ◌⊎◌, ◌&&◌, ℕ, Bool, true, false, Option, Some, None}
use Rattle.fop_types.specs.declared.cells.Cell.{Cell}
use Rattle.fop_types.specs.declared.jobs.Job.{Job}
use Rattle.afr_machine.specs.Replicas.{Replicas, Size}
use Rattle.afr_machine.specs.Touching.{has_cell}
use Rattle.afr_machine.specs.Changes.{Change, is_unsettled}
use Rattle.afr_machine.specs.Phases.{Phase, IsSoundIn}
use Rattle.afr_machine.specs.Transactions.{Work, Stage}
use Rattle.afr_machine.specs.Transactions.Work.{Own, Settles}
use Rattle.afr_machine.specs.Transactions.Stage.{Locked, Settling, Copying}
use Rattle.afr_machine.specs.States.{State, phase_of}
use Rattle.afr_machine.specs.Sending.{is_confirmed_sink}
use Rattle.afr_machine.specs.Turns.{open_grants}
use Rattle.afr_soundness.specs.Runs.{IsUntouchedFor}

-- from the end of its lock phase on it may come to copy: for a change, for a heal that saw no unsettled change, or after the settling of
-- one that is unsettled
abbrev pub MayCopyFrom : (ℕ → Change) → Job → Phase → Work → Type 0
MayCopyFrom changes own phase Own = IsUntouchedFor None own phase
MayCopyFrom changes own phase (Settles u) = is_unsettled (changes u).verdict ≡ true

-- of the group by which a change was settled, or sound where none was
abbrev pub IsOfGroup : Size → Phase → Cell → Option Replicas → ℕ → Type 0
IsOfGroup size phase cell None i = IsSoundIn size phase cell i
IsOfGroup size phase cell (Some group) i = group i ≡ true

-- the replica is, or may become, a source from which the transaction copies the cell
abbrev pub CanSource : Size → (ℕ → Change) → Job → Work → Phase → Cell → ℕ → Stage → Type 0
CanSource size changes own work phase cell i Locked = MayCopyFrom changes own phase work × IsSoundIn size phase cell i
CanSource size changes own work phase cell i (Settling u group adopts) = group i ≡ true
CanSource size changes own work phase cell i (Copying run) = IsOfGroup size phase cell run.group i
CanSource size changes own work phase cell i other = ⊥

abbrev pub IsSourceFor : Size → State → ℕ → Cell → ℕ → Type 0
IsSourceFor size m t cell i = CanSource size m.changes (m.txns t).job (m.txns t).work (phase_of m t) cell i (m.txns t).stage

-- the replica is a sink that confirmed each of the replacements
abbrev pub is_copied_to : Stage → Cell → ℕ → Bool
is_copied_to (Copying run) cell i = is_confirmed_sink run i && has_cell run.cells cell
is_copied_to other cell i = false

-- the bricks that its lock phase reached, and whose grant is on the connection that is open
abbrev pub held_by : State → ℕ → Replicas
held_by m t k = (phase_of m t).reached k && open_grants m t k

-- a clear over the cell that names the replica may be sent to the brick, now or later in this lock phase
pub record MayPardon (size : Size) (m : State) (t k i : ℕ) (cell : Cell) : Type 0 where
  pub held : held_by m t k ≡ true
  pub covers : has_cell (phase_of m t).cells cell ≡ true
  pub names : IsSourceFor size m t cell i ⊎ (is_copied_to (m.txns t).stage cell i ≡ true)
