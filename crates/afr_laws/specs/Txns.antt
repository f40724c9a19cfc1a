-- What most steps leave of a transaction: its graph and its requests on their way; who is out stays out, and what is over
-- stays over. Ours.
use Rattle.std.specs.Prelude.{◌≡◌, ℕ, ◌<◌, true}
use Rattle.afr_machine.specs.Transactions.{Txn}
use Rattle.afr_machine.specs.Transactions.Stage.{Over}
use Rattle.afr_machine.specs.States.{State}

pub record SameFlights (old new : Txn) : Type 0 where
  pub graph : new.graph ≡ old.graph
  pub flying : new.flying ≡ old.flying
  pub waits : new.waits ≡ old.waits
  pub asked_on : new.asked_on ≡ old.asked_on
  pub out : (k : ℕ) → old.out k ≡ true → new.out k ≡ true
  pub over : old.stage ≡ Over → new.stage ≡ Over

-- a transaction that has not begun is over
abbrev pub UnbegunAreOver : State → Type 0
UnbegunAreOver m = (t : ℕ) → m.begun < t → (m.txns t).stage ≡ Over

-- what every step but a beginning leaves of a transaction
pub record Goes (old new : Txn) : Type 0 where
  pub graph : new.graph ≡ old.graph
  pub over : old.stage ≡ Over → new.stage ≡ Over
