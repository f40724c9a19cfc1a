-- Copies keep apart from unsettled changes: none carries an unsettled change, and a brick that still takes part in a copy of one
-- of its cells has not got it. Ours.
use Rattle.std.specs.Prelude.{◌≡◌, ◌≢◌, ◌≤◌, ◌<◌, ◌⊎◌, ℕ, true, false, Some}
use Rattle.fop_types.specs.declared.cells.Cell.{Cell}
use Rattle.afr_machine.specs.Replicas.{Size}
use Rattle.afr_machine.specs.Touching.{has_cell, share}
use Rattle.afr_machine.specs.Copies.{Fetched, has_change}
use Rattle.afr_machine.specs.Requests.{Ask}
use Rattle.afr_machine.specs.Requests.Ask.{Op, Replace, Clear}
use Rattle.afr_machine.specs.Changes.{is_unsettled}
use Rattle.afr_machine.specs.Phases.{Phase, Deciding}
use Rattle.afr_machine.specs.Phases.Deciding.{ByPosts, BySettles}
use Rattle.afr_machine.specs.Transactions.{CopyRun}
use Rattle.afr_machine.specs.Transactions.Stage.{Copying}
use Rattle.afr_machine.specs.States.{State, phase_of}
use Rattle.afr_machine.specs.Turns.{open_grants}
use Rattle.afr_machine.specs.Steps.{IsReached}
use Rattle.afr_laws.specs.Senders.{EachInput}
use Rattle.afr_laws.specs.Numbers.{applied}

-- ---- a brick that has not got a change

abbrev pub IsNoOpOf : ℕ → Ask → Type 0
IsNoOpOf u (Op v op) = v ≢ u
IsNoOpOf u other = Unit {0}

-- it is in no copy of its cells there, and no op of it is on its way
pub record IsWithout (m : State) (u k : ℕ) : Type 0 where
  pub copies : (cell : Cell) → has_cell (m.changes u).cells cell ≡ true → has_change (applied m k cell) u ≡ false
  pub line : EachInput (λ by ask. IsNoOpOf u ask) (m.bricks k).line

-- ---- by lock phases

-- an unsettled change is at bricks alone that its own lock phase reached
abbrev pub StaysWithin : State → Type 0
StaysWithin m = (q u k : ℕ) → is_unsettled (m.changes u).verdict ≡ true → 1 ≤ q → q ≤ m.ended → (m.phases q).decides ≡ ByPosts u → (m.phases q).reached k ≡ false → IsWithout m u k

-- the lock phase settles another change
abbrev pub SettlesOther : ℕ → Deciding → Type 0
SettlesOther u (BySettles v group adopts) = v ≢ u
SettlesOther u other = ⊥

-- no unsettled change touched its cells when it ended, or it settles another one: an unsettled change of its cells came later
abbrev pub ComesBefore : Phase → ℕ → Type 0
ComesBefore phase u = (phase.untouched ≡ true) ⊎ SettlesOther u phase.decides

-- such a lock phase overtook that of the change, which so is at none of the bricks that it reached
abbrev pub OvertakenAreWithout : State → Type 0
OvertakenAreWithout m =
    (q p u k : ℕ) → is_unsettled (m.changes u).verdict ≡ true → 1 ≤ q → (m.phases q).decides ≡ ByPosts u → q < p → p ≤ m.ended → share (m.phases p).cells (m.changes u).cells ≡ true →
    ComesBefore (m.phases p) u → (m.phases p).reached k ≡ true → IsWithout m u k

-- ---- copies

-- A replacement on its way carries no unsettled change, and its brick has none that touches the cell; nor has the brick of a clear
-- on its way one that touches a cell of it.
abbrev pub IsCopyApart : State → ℕ → Ask → Type 0
IsCopyApart m k (Replace cell found) = (u : ℕ) → is_unsettled (m.changes u).verdict ≡ true → has_cell (m.changes u).cells cell ≡ true → (has_change found.copy.changes u ≡ false) × IsWithout m u k
IsCopyApart m k (Clear cells who) = (u : ℕ) (cell : Cell) → is_unsettled (m.changes u).verdict ≡ true → has_cell cells cell ≡ true → has_cell (m.changes u).cells cell ≡ true → IsWithout m u k
IsCopyApart m k other = Unit {0}

abbrev pub CopyAsksApart : State → Type 0
CopyAsksApart m = (k : ℕ) → EachInput (λ by ask. IsCopyApart m k ask) (m.bricks k).line

-- what was fetched carries none
abbrev pub FetchedApart : State → Type 0
FetchedApart m =
    (t u : ℕ) (run : CopyRun) (cell : Cell) (found : Fetched) → (m.txns t).stage ≡ Copying run → run.fetched cell ≡ Some found → is_unsettled (m.changes u).verdict ≡ true → has_cell (m.changes u).cells cell ≡ true →
    has_change found.copy.changes u ≡ false

-- a brick that the lock phase of a copy reached, and whose grant is on the open connection, has no unsettled change that touches
-- a cell of the copy
abbrev pub CopyApartFromUnsettled : State → Type 0
CopyApartFromUnsettled m =
    (t u k : ℕ) (run : CopyRun) (cell : Cell) → (m.txns t).stage ≡ Copying run → has_cell run.cells cell ≡ true → is_unsettled (m.changes u).verdict ≡ true → has_cell (m.changes u).cells cell ≡ true →
    (phase_of m t).reached k ≡ true → open_grants m t k ≡ true → IsWithout m u k

pub record KeepsCopiesApart (m : State) : Type 0 where
  pub within : StaysWithin m
  pub overtaken : OvertakenAreWithout m
  pub replaces : CopyAsksApart m
  pub fetched : FetchedApart m
  pub copies : CopyApartFromUnsettled m

abbrev pub EveryCopyIsApart : Type 0
EveryCopyIsApart = (size : Size) (m : State) → IsReached size m → KeepsCopiesApart m
