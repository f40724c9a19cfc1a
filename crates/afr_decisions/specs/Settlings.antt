-- A lock phase that settles a change: its group, and what holds while the change is unsettled, whatever becomes of its
-- transaction. Ours.
use Rattle.std.specs.Prelude.{◌≡◌, ◌≤◌, ◌<◌, ℕ, Bool, true}
use Rattle.fop_types.specs.declared.cells.Cell.{Cell}
use Rattle.afr_machine.specs.Replicas.{Replicas, Size}
use Rattle.afr_machine.specs.Touching.{has_cell, share}
use Rattle.afr_machine.specs.Changes.{is_unsettled}
use Rattle.afr_machine.specs.Phases.Deciding.{ByPosts, BySettles}
use Rattle.afr_machine.specs.States.{State}
use Rattle.afr_machine.specs.Turns.{IsInGroup}
use Rattle.afr_machine.specs.Steps.{IsReached}
use Rattle.afr_laws.specs.Senders.{EachInput}
use Rattle.afr_soundness.specs.CopyApart.{ComesBefore}
use Rattle.afr_soundness.specs.Agreeing.{AgreesAt}
use Rattle.afr_soundness.specs.SettleDone.{ClearsNot}

pub record IsSettling (m : State) (p u : ℕ) (group : Replicas) (adopts : Bool) : Type 0 where
  pub one : 1 ≤ p
  pub low : p ≤ m.ended
  pub decides : (m.phases p).decides ≡ BySettles u group adopts

-- each of the group was reached, is sound on the change's cells, and held it as the verdict says; and there is such a replica
pub record HasGroup (size : Size) (m : State) (p u : ℕ) (group : Replicas) (adopts : Bool) : Type 0 where
  pub members : (i : ℕ) → i < size.replicas → group i ≡ true → IsInGroup size (m.phases p) u (m.changes u).cells adopts i
  pub source : ℕ
  pub source_is : source < size.replicas
  pub source_in : group source ≡ true

-- Later lock phases over one of its cells see it unsettled; no clear over one of its cells is on its way to a brick that the lock
-- phase reached, and that brick has the change where its row said so, and no op of it on its way.
pub record KeepsSettling (m : State) (p u : ℕ) : Type 0 where
  pub later : (at : ℕ) → p < at → at ≤ m.ended → share (m.phases at).cells (m.changes u).cells ≡ true → ComesBefore (m.phases at) u → ⊥
  pub clears : (k : ℕ) (cell : Cell) → (m.phases p).reached k ≡ true → has_cell (m.changes u).cells cell ≡ true → EachInput (λ by ask. ClearsNot cell ask) (m.bricks k).line
  pub agrees : (k : ℕ) (cell : Cell) → (m.phases p).reached k ≡ true → has_cell (m.changes u).cells cell ≡ true → AgreesAt m u p k cell

-- the change was marked in an earlier lock phase
pub record StandsSettling (size : Size) (m : State) (p u : ℕ) (group : Replicas) (adopts : Bool) : Type 0 where
  pub group_is : HasGroup size m p u group adopts
  pub marked : (q : ℕ) → q ≤ m.ended → (m.phases q).decides ≡ ByPosts u → q < p
  pub unsettled : is_unsettled (m.changes u).verdict ≡ true → KeepsSettling m p u

abbrev pub EverySettlingStands : Type 0
EverySettlingStands = (size : Size) (m : State) → IsReached size m → (p u : ℕ) (group : Replicas) (adopts : Bool) → IsSettling m p u group adopts → StandsSettling size m p u group adopts
