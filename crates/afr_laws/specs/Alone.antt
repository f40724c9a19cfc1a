-- While a brick holds a lock of an open connection and no Closed is on its way, whatever else in its line needs a lock
-- is of a sender whose lock is held beside it. Ours.
use Rattle.std.specs.Prelude.{◌≡◌, ◌≢◌, ◌⊎◌, ℕ, true, false, List, [], ◌∷◌}
use Rattle.afr_machine.specs.Replicas.{Size}
use Rattle.afr_machine.specs.Touching.{share}
use Rattle.afr_machine.specs.Requests.{Sender, Ask, Input}
use Rattle.afr_machine.specs.Requests.Input.{Asked, Steered}
use Rattle.afr_machine.specs.Locks.{BrickLock, conflict}
use Rattle.afr_machine.specs.Bricks.{Brick}
use Rattle.afr_machine.specs.States.{State, Link, is_current}
use Rattle.afr_machine.specs.Steps.{IsReached}
use Rattle.afr_laws.specs.Senders.{EachLock, EachInput}
use Rattle.afr_laws.specs.Connections.{has_control}
use Rattle.afr_laws.specs.Grants.{IsAmong, has_closed}
use Rattle.afr_laws.specs.Covered.{needs_lock, cells_asked, alters, IsWithin}

-- the graphs of held and waiting locks are connected
pub record LocksAreConnected (b : Brick) : Type 0 where
  pub held : EachLock (λ by ask. b.connected by.graph ≡ true) b.held
  pub waiting : EachLock (λ by ask. b.connected by.graph ≡ true) b.waiting

-- Where a request that needs a lock is of a graph that the brick has not connected, a Closed is on its way, or each graph
-- whose connection is open has a control behind the request.
abbrev pub IsLate : Brick → (ℕ → Link) → List Input → Type 0
IsLate b links [] = Unit {0}
IsLate b links (Asked by ask ∷ is) =
    (needs_lock ask ≡ true → b.connected by.graph ≡ false → (has_closed b.outputs ≡ true) ⊎ ((g : ℕ) → (links g).is_open ≡ true → has_control g is ≡ true))
    × IsLate b links is
IsLate b links (Steered control ∷ is) = IsLate b links is

-- the sender's own lock is held, the request is within it, and it does not conflict with this one
pub record IsHeldBeside (held : List BrickLock) (lock : BrickLock) (by : Sender) (ask : Ask) : Type 0 where
  pub within : IsWithin held by ask
  pub apart : conflict lock within.own.lock ≡ false

abbrev pub HolderIsAlone : State → Type 0
HolderIsAlone m = (k : ℕ) (lock : BrickLock) → IsAmong lock (m.bricks k).held → is_current (m.links k lock.by.graph) lock.by.connection ≡ true → has_closed (m.bricks k).outputs ≡ false →
    EachInput (λ by ask. needs_lock ask ≡ true → by.txn ≢ lock.by.txn → IsHeldBeside (m.bricks k).held lock by ask) (m.bricks k).line

-- the request does not alter cells of the lock, or is of its transaction
abbrev pub IsApartFrom : BrickLock → Sender → Ask → Type 0
IsApartFrom lock by ask = alters ask ≡ true → by.txn ≢ lock.by.txn → share lock.cells (cells_asked ask) ≡ false

-- so nobody else's request on its way alters one of its cells
abbrev pub HolderWritesAlone : State → Type 0
HolderWritesAlone m = (k : ℕ) (lock : BrickLock) → IsAmong lock (m.bricks k).held → is_current (m.links k lock.by.graph) lock.by.connection ≡ true → has_closed (m.bricks k).outputs ≡ false →
    EachInput (IsApartFrom lock) (m.bricks k).line

pub record KeepsHoldersAlone (m : State) : Type 0 where
  pub connected : (k : ℕ) → LocksAreConnected (m.bricks k)
  pub late : (k : ℕ) → IsLate (m.bricks k) (m.links k) (m.bricks k).line
  pub alone : HolderIsAlone m
  pub writes_alone : HolderWritesAlone m

abbrev pub EveryHolderIsAlone : Type 0
EveryHolderIsAlone = (size : Size) (m : State) → IsReached size m → KeepsHoldersAlone m
