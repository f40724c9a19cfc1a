-- Granted locks of a brick do not conflict, whatever is on its way from the brick. Ours.
use Rattle.std.specs.Prelude.{◌≡◌, ◌≢◌, ◌⊎◌, ℕ, true, false, List, [], ◌∷◌, Some}
use Rattle.afr_machine.specs.Requests.{Output}
use Rattle.afr_machine.specs.Requests.Output.{Answered, Closed, Opened, Connected}
use Rattle.afr_machine.specs.Locks.{BrickLock, conflict}
use Rattle.afr_machine.specs.Transactions.{Grant}
use Rattle.afr_machine.specs.States.{State, is_current}
use Rattle.afr_laws.specs.Grants.{lock_of, lock_granted, is_unlocking}

-- the outputs before the first Closed grant the lock
abbrev pub IsGranting : BrickLock → List Output → Type 0
IsGranting lock [] = ⊥
IsGranting lock (Answered by ask answer ∷ os) = (lock_granted by ask answer ≡ Some lock) ⊎ IsGranting lock os
IsGranting lock (Closed ∷ os) = ⊥
IsGranting lock (Opened ∷ os) = IsGranting lock os
IsGranting lock (Connected graph ∷ os) = IsGranting lock os

-- a grant that was handed in, on the open connection, of a transaction that does not unlock
pub record Holds (m : State) (t k : ℕ) (grant : Grant) : Type 0 where
  pub granted : (m.txns t).grants k ≡ Some grant
  pub still_open : is_current (m.links k (m.txns t).graph) grant.connection ≡ true
  pub holding : is_unlocking (m.txns t).stage ≡ false

-- A lock of the open connection that the brick granted: its grant was handed in, or is on its way before any Closed.
pub data IsGranted (m : State) (k : ℕ) (lock : BrickLock) : Type 0 where
  HandedIn : (t : ℕ) → (grant : Grant) → Holds m t k grant → lock ≡ lock_of t (m.txns t).graph grant → IsGranted m k lock
  OnItsWay : IsGranting lock (m.bricks k).outputs → is_current (m.links k lock.by.graph) lock.by.connection ≡ true → IsGranted m k lock

-- two granted locks of a brick, of different transactions, do not conflict
abbrev pub GrantsApart : State → Type 0
GrantsApart m = (k : ℕ) (a b : BrickLock) → a.by.txn ≢ b.by.txn → IsGranted m k a → IsGranted m k b → conflict a b ≡ false
