-- What verdicts mean for good copies: an adopted change is never lost, and a dropped one never comes back. Ours.
use Rattle.std.specs.Prelude.{◌≡◌, ℕ, true, false}
use Rattle.fop_types.specs.declared.cells.Cell.{Cell}
use Rattle.afr_machine.specs.Replicas.{Size, IsSize}
use Rattle.afr_machine.specs.Touching.{has_cell}
use Rattle.afr_machine.specs.Copies.{has_change}
use Rattle.afr_machine.specs.Changes.Verdict.{Adopted, Dropped}
use Rattle.afr_machine.specs.Transactions.{CopyRun}
use Rattle.afr_machine.specs.Transactions.Stage.{Copying}
use Rattle.afr_machine.specs.States.{State}
use Rattle.afr_machine.specs.Steps.{IsReached}
use Rattle.afr_laws.specs.Numbers.{applied}
use Rattle.afr_soundness.specs.Copied.{Uses, copy_at}
use Rattle.afr_decisions.specs.Stands.{IsLater}
use Rattle.afr_contents.specs.Good.{IsGoodAt}

-- each good copy of a cell that the change touches, now or later
pub record HasVerdict (m new : State) (u i : ℕ) (cell : Cell) : Type 0 where
  pub adopted : (m.changes u).verdict ≡ Adopted → has_change (applied new i cell) u ≡ true
  pub dropped : (m.changes u).verdict ≡ Dropped → has_change (applied new i cell) u ≡ false

abbrev pub EveryGoodCopyHasVerdicts : Type 0
EveryGoodCopyHasVerdicts =
    (size : Size) (m new : State) → IsSize size → IsReached size m → IsLater size m new → (u i : ℕ) (cell : Cell) → has_cell (m.changes u).cells cell ≡ true → IsGoodAt new i cell → HasVerdict m new u i cell

-- ---- copies that were confirmed

-- a sink that confirmed has the copy of one of the sources, while the transaction uses both
pub record EqualsSource (m : State) (t k : ℕ) (run : CopyRun) (cell : Cell) : Type 0 where
  pub source : ℕ
  pub is_source : run.sources source ≡ true
  pub same : Uses m t k → Uses m t source → copy_at m k cell ≡ copy_at m source cell

abbrev pub EveryConfirmedEqualsSource : Type 0
EveryConfirmedEqualsSource =
    (size : Size) (m : State) → IsReached size m → (t k : ℕ) (run : CopyRun) (cell : Cell) → (m.txns t).stage ≡ Copying run → run.replaced k cell ≡ true → EqualsSource m t k run cell
