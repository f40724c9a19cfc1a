-- What a confirmed clear says: the brick accuses none of those that received a copy, while they are spared. Ours.
use Rattle.std.specs.Prelude.{◌≡◌, ◌≤◌, ◌<◌, ℕ, true, false}
use Rattle.fop_types.specs.declared.cells.Cell.{Cell}
use Rattle.afr_machine.specs.Replicas.{Size, IsSize, count}
use Rattle.afr_machine.specs.Touching.{has_cell}
use Rattle.afr_machine.specs.Requests.{Sender, Ask}
use Rattle.afr_machine.specs.Requests.Ask.{Clear}
use Rattle.afr_machine.specs.Requests.Answer.{Done}
use Rattle.afr_machine.specs.Phases.{IsCopiedIn}
use Rattle.afr_machine.specs.States.{State, is_current}
use Rattle.afr_machine.specs.Steps.{IsReached}
use Rattle.afr_laws.specs.Rows.{accuses_at}
use Rattle.afr_laws.specs.Sound.{accuses_coming, accusers_coming, IsSpared}
use Rattle.afr_soundness.specs.Replies.{EachReply}
use Rattle.afr_soundness.specs.Replaced.{HasCopy}

-- ---- the answer Done to a clear

-- the brick accuses nobody whom the clear named, on its cells, while the lock phase of its transaction and later ones spare it
abbrev pub ShowsCleared : State → ℕ → Sender → Ask → Type 0
ShowsCleared m k by (Clear cells who) =
    is_current (m.links k by.graph) by.connection ≡ true → (cell : Cell) (i : ℕ) → has_cell cells cell ≡ true → who i ≡ true → IsSpared m (m.txns by.txn).phase cell i → accuses_at (m.bricks k).store cell i ≡ false
ShowsCleared m k by other = Unit {0}

-- so is each such answer on its way, on the open connection
abbrev pub ClearsAreDone : State → Type 0
ClearsAreDone m = (k : ℕ) → EachReply (λ by ask answer. answer ≡ Done → ShowsCleared m k by ask) (m.bricks k).outputs

-- ---- a clear that was handed in

-- the brick was reached by the lock phase, which is over the cell; and it does not accuse the replica while that is spared
pub record IsClearedAt (m : State) (p i : ℕ) (cell : Cell) (k : ℕ) : Type 0 where
  pub reached : (m.phases p).reached k ≡ true
  pub covers : has_cell (m.phases p).cells cell ≡ true
  pub none : IsSpared m p cell i → accuses_coming (m.bricks k) cell i ≡ false

abbrev pub ClearedAccuseNone : State → Type 0
ClearedAccuseNone m = (p i k : ℕ) (cell : Cell) → 1 ≤ p → p ≤ m.ended → (m.phases p).cleared i cell k ≡ true → IsClearedAt m p i cell k

-- a replica that has a copy, does not accuse itself, and which fewer than a quorum of all accuse
pub record IsFree (size : Size) (m : State) (cell : Cell) (i : ℕ) : Type 0 where
  pub present : HasCopy m i cell
  pub itself : accusers_coming m cell i i ≡ false
  pub few : count size.replicas (accusers_coming m cell i) < size.quorum

-- so is whoever received a copy, and is spared from then on
abbrev pub CopiedIsFree : Size → State → Type 0
CopiedIsFree size m = (p i : ℕ) (cell : Cell) → 1 ≤ p → p ≤ m.ended → IsCopiedIn size (m.phases p) cell i → IsSpared m p cell i → IsFree size m cell i

pub record KeepsCleared (size : Size) (m : State) : Type 0 where
  pub replies : ClearsAreDone m
  pub cleared : ClearedAccuseNone m
  pub free : CopiedIsFree size m

abbrev pub EveryCopiedIsFree : Type 0
EveryCopiedIsFree = (size : Size) (m : State) → IsSize size → IsReached size m → KeepsCleared size m
