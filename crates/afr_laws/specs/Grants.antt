-- A grant on the open connection is a lock that the brick holds, until the transaction unlocks. Ours.
use Rattle.std.specs.Prelude.{◌≡◌, ◌⊎◌, ◌≤◌, ℕ, Bool, true, false, List, [], ◌∷◌, Option, Some, None}
use Rattle.afr_machine.specs.Requests.{Sender, Ask, Answer, Output}
use Rattle.afr_machine.specs.Requests.Ask.{Lock}
use Rattle.afr_machine.specs.Requests.Answer.{Rows}
use Rattle.afr_machine.specs.Requests.Output.{Answered, Closed, Opened, Connected}
use Rattle.afr_machine.specs.Locks.{BrickLock}
use Rattle.afr_machine.specs.Bricks.{Brick}
use Rattle.afr_machine.specs.Transactions.{Stage, Grant}
use Rattle.afr_machine.specs.Transactions.Stage.{Over, Choosing, Polling, Unlocking}
use Rattle.afr_machine.specs.States.{State, is_current}

-- the lock is one of them
abbrev pub IsAmong : BrickLock → List BrickLock → Type 0
IsAmong lock [] = ⊥
IsAmong lock (l ∷ ls) = (lock ≡ l) ⊎ IsAmong lock ls

abbrev pub has_closed : List Output → Bool
has_closed [] = false
has_closed (Answered by ask answer ∷ os) = has_closed os
has_closed (Closed ∷ os) = true
has_closed (Opened ∷ os) = has_closed os
has_closed (Connected graph ∷ os) = has_closed os

-- the brick holds the lock, or a Closed is on its way that ends every connection to it
abbrev pub IsHeldBy : Brick → BrickLock → Type 0
IsHeldBy b lock = IsAmong lock b.held ⊎ (has_closed b.outputs ≡ true)

-- the lock of which a grant tells
abbrev pub lock_of : ℕ → ℕ → Grant → BrickLock
lock_of t graph grant = record { by = record { txn = t; graph = graph; connection = grant.connection }; shared = grant.shared; cells = grant.cells }

-- the lock that a reply grants
abbrev pub lock_granted : Sender → Ask → Answer → Option BrickLock
lock_granted by (Lock shared cells) (Rows rows) = Some (record { by = by; shared = shared; cells = cells })
lock_granted by ask answer = None

abbrev pub OnLock : (BrickLock → Type 0) → Option BrickLock → Type 0
OnLock P None = Unit {0}
OnLock P (Some lock) = P lock

abbrev pub EachGranted : (BrickLock → Type 0) → List Output → Type 0
EachGranted P [] = Unit {0}
EachGranted P (Answered by ask answer ∷ os) = OnLock P (lock_granted by ask answer) × EachGranted P os
EachGranted P (Closed ∷ os) = EachGranted P os
EachGranted P (Opened ∷ os) = EachGranted P os
EachGranted P (Connected graph ∷ os) = EachGranted P os

-- a stage in which a transaction has no grant
abbrev pub has_none : Stage → Bool
has_none Over = true
has_none Choosing = true
has_none Polling = true
has_none other = false

abbrev pub is_unlocking : Stage → Bool
is_unlocking Unlocking = true
is_unlocking other = false

-- one grant that was handed in: its connection is one that was opened, and while that is open and the transaction does
-- not unlock, the lock is held
pub record StandsGrant (m : State) (t k : ℕ) (grant : Grant) : Type 0 where
  pub numbered : grant.connection ≤ (m.links k (m.txns t).graph).last
  pub held : is_current (m.links k (m.txns t).graph) grant.connection ≡ true → is_unlocking (m.txns t).stage ≡ false → IsHeldBy (m.bricks k) (lock_of t (m.txns t).graph grant)

pub record GrantsAreHeld (m : State) : Type 0 where
  pub handed : (t k : ℕ) (grant : Grant) → (m.txns t).grants k ≡ Some grant → StandsGrant m t k grant
  pub coming : (k : ℕ) → EachGranted (λ lock. is_current (m.links k lock.by.graph) lock.by.connection ≡ true → IsHeldBy (m.bricks k) lock) (m.bricks k).outputs
  pub none : (t : ℕ) → has_none (m.txns t).stage ≡ true → (k : ℕ) → (m.txns t).grants k ≡ None
