-- Requests in the line of a brick that need a lock: the brick holds it. Ours.
use Rattle.std.specs.Prelude.{◌≡◌, ◌≢◌, ℕ, Bool, true, false, List, [], ◌∷◌}
use Rattle.fop_types.specs.StoreOps.{needs}
use Rattle.fop_types.specs.declared.cells.Cell.{Cell}
use Rattle.afr_machine.specs.Touching.{has_cell}
use Rattle.afr_machine.specs.Requests.{Sender, Ask, Input}
use Rattle.afr_machine.specs.Requests.Ask.{Lock, Unlock, Mark, Op, Post, Fetch, Replace, Clear, Settle, Index, Open, Release, OpenFirst}
use Rattle.afr_machine.specs.Requests.Input.{Asked, Steered}
use Rattle.afr_machine.specs.Locks.{BrickLock}
use Rattle.afr_machine.specs.Bricks.{Brick}
use Rattle.afr_machine.specs.Replicas.{Size}
use Rattle.afr_machine.specs.States.{State}
use Rattle.afr_machine.specs.Steps.{IsReached}
use Rattle.afr_laws.specs.Senders.{EachInput}
use Rattle.afr_laws.specs.Connections.{is_control_of, has_control}
use Rattle.afr_laws.specs.Grants.{IsAmong}
use Rattle.afr_laws.specs.Apart.{IsGranted}

-- ---- grants, by the brick's own connections

-- No control of the lock's graph is in the line, and the brick holds the lock unless it lost that graph's connection.
pub record Stands (m : State) (k : ℕ) (lock : BrickLock) : Type 0 where
  pub behind : has_control lock.by.graph (m.bricks k).line ≡ false
  pub held : (m.bricks k).connected lock.by.graph ≡ true → IsAmong lock (m.bricks k).held

-- of every granted lock of the open connection, while its transaction does not unlock, whatever is on its way
abbrev pub GrantsStand : State → Type 0
GrantsStand m = (k : ℕ) (lock : BrickLock) → IsGranted m k lock → Stands m k lock

-- ---- requests that need a lock

-- all but locks, unlocks, and the requests of jobs without locks
abbrev pub needs_lock : Ask → Bool
needs_lock (Lock shared cells) = false
needs_lock Unlock = false
needs_lock (Mark change cells) = true
needs_lock (Op change op) = true
needs_lock (Post change cells accused) = true
needs_lock (Fetch cell) = true
needs_lock (Replace cell found) = true
needs_lock (Clear cells who) = true
needs_lock (Settle change cells accused) = true
needs_lock Index = false
needs_lock Open = false
needs_lock Release = true
needs_lock OpenFirst = true

-- a lock of this sender is held: of its transaction, granted on the connection on which it asks
pub record HasLock (held : List BrickLock) (by : Sender) : Type 0 where
  pub lock : BrickLock
  pub among : IsAmong lock held
  pub owner : lock.by ≡ by

-- the cells on which a request works; births are not among them
abbrev pub cells_asked : Ask → List Cell
cells_asked (Lock shared cells) = []
cells_asked Unlock = []
cells_asked (Mark change cells) = cells
cells_asked (Op change op) = needs op
cells_asked (Post change cells accused) = cells
cells_asked (Fetch cell) = cell ∷ []
cells_asked (Replace cell found) = cell ∷ []
cells_asked (Clear cells who) = cells
cells_asked (Settle change cells accused) = cells
cells_asked Index = []
cells_asked Open = []
cells_asked Release = []
cells_asked OpenFirst = []

-- the requests that change copies or counters
abbrev pub alters : Ask → Bool
alters (Lock shared cells) = false
alters Unlock = false
alters (Mark change cells) = true
alters (Op change op) = true
alters (Post change cells accused) = true
alters (Fetch cell) = false
alters (Replace cell found) = true
alters (Clear cells who) = true
alters (Settle change cells accused) = true
alters Index = false
alters Open = false
alters Release = false
alters OpenFirst = false

-- the sender's lock has the cells on which the request works, and is exclusive where it alters them
pub record IsWithin (held : List BrickLock) (by : Sender) (ask : Ask) : Type 0 where
  pub own : HasLock held by
  pub within : (cell : Cell) → has_cell (cells_asked ask) cell ≡ true → has_cell own.lock.cells cell ≡ true
  pub exclusive : alters ask ≡ true → own.lock.shared ≡ false

abbrev pub IsCovered : Brick → Sender → Ask → Type 0
IsCovered b by ask = needs_lock ask ≡ true → b.connected by.graph ≡ true → IsWithin b.held by ask

-- the request needs no lock, or is of another transaction, of another graph
abbrev pub IsOfOtherTxn : ℕ → Sender → Ask → Type 0
IsOfOtherTxn t by ask = needs_lock ask ≡ true → by.txn ≢ t

abbrev pub IsOfOtherGraph : (ℕ → Bool) → Sender → Ask → Type 0
IsOfOtherGraph is_own by ask = needs_lock ask ≡ true → is_own by.graph ≡ false

-- no request that needs a lock is behind an unlock of its transaction or behind a control of its graph
abbrev pub IsInTurn : List Input → Type 0
IsInTurn [] = Unit {0}
IsInTurn (Asked by ask ∷ is) = (ask ≡ Unlock → EachInput (IsOfOtherTxn by.txn) is) × IsInTurn is
IsInTurn (Steered control ∷ is) = EachInput (IsOfOtherGraph (λ g. is_control_of g control)) is × IsInTurn is

-- Each request in the line that needs a lock, and whose graph the brick has connected, is of a sender whose lock the
-- brick holds; also behind a Down.
pub record LineIsCovered (b : Brick) : Type 0 where
  pub covered : EachInput (IsCovered b) b.line
  pub in_turn : IsInTurn b.line

abbrev pub LinesAreCovered : State → Type 0
LinesAreCovered m = (k : ℕ) → LineIsCovered (m.bricks k)

-- ---- every list of steps

pub record CoversLines (m : State) : Type 0 where
  pub grants_stand : GrantsStand m
  pub lines_covered : LinesAreCovered m

abbrev pub EveryStateCoversLines : Type 0
EveryStateCoversLines = (size : Size) (m : State) → IsReached size m → CoversLines m
