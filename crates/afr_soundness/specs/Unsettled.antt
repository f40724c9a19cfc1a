-- No two unsettled changes have a cell in common, and none but its own touches the cells of a read or change that runs and has
-- settled. Ours.
use Rattle.std.specs.Prelude.{◌≡◌, ℕ, true, false}
use Rattle.afr_machine.specs.Replicas.{Size}
use Rattle.afr_machine.specs.Touching.{share}
use Rattle.afr_machine.specs.Changes.{is_unsettled}
use Rattle.afr_machine.specs.Transactions.{cells_of_job, settles_first, is_over}
use Rattle.afr_machine.specs.Transactions.Work.{Settles}
use Rattle.afr_machine.specs.States.{State}
use Rattle.afr_machine.specs.Steps.{IsReached}
use Rattle.afr_laws.specs.OwnChanges.{was_unsettled}

abbrev pub OneUnsettled : State → Type 0
OneUnsettled m = (u v : ℕ) → is_unsettled (m.changes u).verdict ≡ true → is_unsettled (m.changes v).verdict ≡ true → share (m.changes u).cells (m.changes v).cells ≡ true → u ≡ v

abbrev pub NoOtherUnsettled : State → Type 0
NoOtherUnsettled m =
    (t v : ℕ) → settles_first (m.txns t).job ≡ true → (m.txns t).settled ≡ true → is_over (m.txns t).stage ≡ false → is_unsettled (m.changes v).verdict ≡ true →
    share (m.changes v).cells (cells_of_job (m.txns t).job) ≡ true → (m.txns t).own ≡ v

-- a change that is settled became unsettled once
abbrev pub SettledWasUnsettled : State → Type 0
SettledWasUnsettled m = (t u : ℕ) → (m.txns t).work ≡ Settles u → was_unsettled (m.changes u).verdict ≡ true

pub record KeepsUnsettledApart (m : State) : Type 0 where
  pub one : OneUnsettled m
  pub no_other : NoOtherUnsettled m
  pub settled : SettledWasUnsettled m

abbrev pub EveryUnsettledIsAlone : Type 0
EveryUnsettledIsAlone = (size : Size) (m : State) → IsReached size m → KeepsUnsettledApart m
