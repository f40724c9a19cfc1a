-- What a transaction that copies knows: of its sources, of its sinks, and that its lock phase saw no unsettled change. Ours.
use Rattle.std.specs.Prelude.{◌≡◌, ◌<◌, ℕ, true, false, Option, Some, None}
use Rattle.fop_types.specs.declared.cells.Cell.{Cell}
use Rattle.fop_types.specs.declared.jobs.Job.{Job}
use Rattle.fop_types.specs.declared.jobs.Job.TheVariants as job
use Rattle.afr_machine.specs.Replicas.{Replicas, Size}
use Rattle.afr_machine.specs.Touching.{has_cell}
use Rattle.afr_machine.specs.Changes.{is_unsettled}
use Rattle.afr_machine.specs.Phases.{Phase}
use Rattle.afr_machine.specs.Transactions.{CopyRun}
use Rattle.afr_machine.specs.Transactions.Work.{Settles}
use Rattle.afr_machine.specs.Transactions.Stage.{Copying}
use Rattle.afr_machine.specs.States.{State, phase_of}
use Rattle.afr_machine.specs.Turns.{IsNotSplit, IsSource, IsSink}
use Rattle.afr_machine.specs.Steps.{IsReached}

-- the lock phase reached the replica, which is a source of the copy
pub record IsSourceOf (size : Size) (phase : Phase) (run : CopyRun) (i : ℕ) : Type 0 where
  pub replica : i < size.replicas
  pub reached : phase.reached i ≡ true
  pub source : IsSource size phase run.cells run.group i

pub record IsSinkOf (size : Size) (phase : Phase) (run : CopyRun) (i : ℕ) : Type 0 where
  pub replica : i < size.replicas
  pub reached : phase.reached i ≡ true
  pub sink : IsSink size phase run.cells run.group i

-- for its own job a change copies, and a heal where its lock phase saw no unsettled change; nobody else does
abbrev pub IsUntouchedFor : Option Replicas → Job → Phase → Type 0
IsUntouchedFor (Some group) own phase = Unit {0}
IsUntouchedFor None (job.Change cells fd op effect) phase = Unit {0}
IsUntouchedFor None (job.Heal cell) phase = phase.untouched ≡ true
IsUntouchedFor None other phase = ⊥

-- by the rows that the lock phase saw; there is a source and a cell, and no cell of the lock phase is split
pub record KnowsRun (size : Size) (phase : Phase) (own : Job) (run : CopyRun) : Type 0 where
  pub not_split : IsNotSplit size phase run.group
  pub within : (cell : Cell) → has_cell run.cells cell ≡ true → has_cell phase.cells cell ≡ true
  pub sources_are : (i : ℕ) → run.sources i ≡ true → IsSourceOf size phase run i
  pub sinks_are : (i : ℕ) → run.sinks i ≡ true → IsSinkOf size phase run i
  pub source : ℕ
  pub source_in : run.sources source ≡ true
  pub cell : Cell
  pub cell_in : has_cell run.cells cell ≡ true
  pub untouched : IsUntouchedFor run.group own phase

abbrev pub EachRunIsKnown : Size → State → Type 0
EachRunIsKnown size m = (t : ℕ) (run : CopyRun) → (m.txns t).stage ≡ Copying run → KnowsRun size (phase_of m t) (m.txns t).job run

-- a settling copies once its change is decided
abbrev pub SettledAreDecided : State → Type 0
SettledAreDecided m = (t u : ℕ) (run : CopyRun) → (m.txns t).stage ≡ Copying run → (m.txns t).work ≡ Settles u → is_unsettled (m.changes u).verdict ≡ false

pub record KnowsCopies (size : Size) (m : State) : Type 0 where
  pub runs : EachRunIsKnown size m
  pub settled : SettledAreDecided m

abbrev pub EveryCopyKnowsItsSources : Type 0
EveryCopyKnowsItsSources = (size : Size) (m : State) → IsReached size m → KnowsCopies size m
