-- Locks are asked brick by brick, and an op is sent to a brick once. Ours.
use Rattle.std.specs.Prelude.{◌≡◌, ◌≤◌, ℕ, Bool, true, false, List, None}
use Rattle.fop_types.specs.StoreOps.{needs}
use Rattle.fop_types.specs.declared.cells.Cell.{Cell}
use Rattle.afr_machine.specs.Replicas.{Size}
use Rattle.afr_machine.specs.Touching.{has_cell}
use Rattle.afr_machine.specs.Copies.{has_change}
use Rattle.afr_machine.specs.Requests.{Ask}
use Rattle.afr_machine.specs.Requests.Ask.{Op}
use Rattle.afr_machine.specs.Transactions.Stage.{Locking}
use Rattle.afr_machine.specs.States.{State}
use Rattle.afr_machine.specs.Steps.{IsReached}
use Rattle.afr_laws.specs.Senders.{EachInput}
use Rattle.afr_laws.specs.Numbers.{applied}

-- ---- waits

-- whose turn is that of one brick has grants of earlier ones alone
abbrev pub HoldsBelow : State → Type 0
HoldsBelow m = (t next j : ℕ) (cells : List Cell) (shared : Bool) → (m.txns t).stage ≡ Locking cells shared next → next ≤ j → (m.txns t).grants j ≡ None

-- so who waits for the lock of a brick holds only locks of bricks below it
abbrev pub WaitsBelow : State → Type 0
WaitsBelow m = (t k next j : ℕ) (cells : List Cell) (shared : Bool) → (m.txns t).stage ≡ Locking cells shared next → (m.txns t).waits k ≡ true → k ≤ j → (m.txns t).grants j ≡ None

pub record LocksInOrder (m : State) : Type 0 where
  pub holds : HoldsBelow m
  pub waits : WaitsBelow m

abbrev pub EveryLockIsInOrder : Type 0
EveryLockIsInOrder = (size : Size) (m : State) → IsReached size m → LocksInOrder m

-- ---- ops

-- the copies of the cells that the op alters have not got it
abbrev pub IsNewAt : State → ℕ → Ask → Type 0
IsNewAt m k (Op u op) = (cell : Cell) → has_cell (needs op) cell ≡ true → has_change (applied m k cell) u ≡ false
IsNewAt m k other = Unit {0}

abbrev pub OpsAreNew : State → Type 0
OpsAreNew m = (k : ℕ) → EachInput (λ by ask. IsNewAt m k ask) (m.bricks k).line

abbrev pub EveryOpIsNew : Type 0
EveryOpIsNew = (size : Size) (m : State) → IsReached size m → OpsAreNew m
