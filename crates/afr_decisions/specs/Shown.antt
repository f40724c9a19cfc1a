-- What was confirmed before a settling's lock phase ended is in the rows that this one saw. Ours.
use Rattle.std.specs.Prelude.{◌≡◌, ◌≤◌, ◌<◌, ℕ, Bool, true, Some}
use Rattle.fop_types.specs.declared.cells.Cell.{Cell}
use Rattle.afr_changelog.specs.Soundness.{accuses}
use Rattle.afr_machine.specs.Replicas.{Replicas, Size, IsSize}
use Rattle.afr_machine.specs.Touching.{has_cell}
use Rattle.afr_machine.specs.Changes.{is_unsettled}
use Rattle.afr_machine.specs.Transactions.Work.{Settles}
use Rattle.afr_machine.specs.States.{State}
use Rattle.afr_machine.specs.Steps.{IsReached}
use Rattle.afr_laws.specs.Fresh.{is_behind}
use Rattle.afr_soundness.specs.Later.{IsOf}
use Rattle.afr_decisions.specs.Settlings.{IsSettling}

-- each brick that confirmed in the first lock phase, and that the second one reached, showed that it accuses whomever the first accuses
abbrev pub ShowsConfirmed : Size → State → ℕ → ℕ → ℕ → Type 0
ShowsConfirmed size m p at u =
    (k i : ℕ) (cell : Cell) → (m.phases p).confirmed k ≡ true → (m.phases at).reached k ≡ true → i < size.replicas → has_cell (m.changes u).cells cell ≡ true → (m.phases p).accused i ≡ true →
    accuses i (Some ((m.phases at).rows k cell)) ≡ true

-- of a transaction that is to settle an unsettled change, and of each lock phase that settles one
pub record LaterShow (size : Size) (m : State) : Type 0 where
  pub gathered : (p t u : ℕ) → 1 ≤ p → IsOf u (m.phases p).decides → is_behind (m.txns t).stage ≡ true → (m.txns t).work ≡ Settles u → is_unsettled (m.changes u).verdict ≡ true → p < (m.txns t).phase → ShowsConfirmed size m p (m.txns t).phase u
  pub settled : (p at u : ℕ) (group : Replicas) (adopts : Bool) → 1 ≤ p → IsOf u (m.phases p).decides → IsSettling m at u group adopts → p < at → ShowsConfirmed size m p at u

abbrev pub EveryLaterShows : Type 0
EveryLaterShows = (size : Size) (m : State) → IsSize size → IsReached size m → LaterShow size m
