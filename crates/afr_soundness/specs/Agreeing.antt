-- While an unsettled change is settled, each brick that the lock phase reached has it exactly where its row said so, and so its
-- group agrees. Ours.
use Rattle.std.specs.Prelude.{◌≡◌, ◌≤◌, ◌<◌, ℕ, Bool, true}
use Rattle.fop_types.specs.declared.cells.Cell.{Cell}
use Rattle.afr_machine.specs.Replicas.{Replicas, Size}
use Rattle.afr_machine.specs.Touching.{has_cell}
use Rattle.afr_machine.specs.Copies.{has_change}
use Rattle.afr_machine.specs.Changes.{is_unsettled}
use Rattle.afr_machine.specs.Phases.Deciding.{ByPosts}
use Rattle.afr_machine.specs.Transactions.Work.{Settles}
use Rattle.afr_machine.specs.Transactions.Stage.{Settling}
use Rattle.afr_machine.specs.States.{State, phase_of}
use Rattle.afr_machine.specs.Turns.{holds_last}
use Rattle.afr_machine.specs.Steps.{IsReached}
use Rattle.afr_laws.specs.Senders.{EachInput}
use Rattle.afr_laws.specs.Numbers.{applied}
use Rattle.afr_laws.specs.Fresh.{is_behind}
use Rattle.afr_soundness.specs.CopyApart.{IsNoOpOf}

-- The lock phase ended after the one that marked the change. The brick has the change where the row of its copy said so, and
-- nowhere else, and no op of it is on its way there.
pub record AgreesAt (m : State) (u p k : ℕ) (cell : Cell) : Type 0 where
  pub later : (q : ℕ) → q ≤ m.ended → (m.phases q).decides ≡ ByPosts u → q < p
  pub copy : ((m.phases p).rows k cell).present ≡ true → has_change (applied m k cell) u ≡ holds_last u ((m.phases p).rows k cell)
  pub line : EachInput (λ by ask. IsNoOpOf u ask) (m.bricks k).line

-- of each cell of an unsettled change and each brick that the lock phase of a settling reached, also where its grant has ended
abbrev pub SeenAgree : State → Type 0
SeenAgree m =
    (t u k : ℕ) (cell : Cell) → is_behind (m.txns t).stage ≡ true → (m.txns t).work ≡ Settles u → is_unsettled (m.changes u).verdict ≡ true → (phase_of m t).reached k ≡ true →
    has_cell (m.changes u).cells cell ≡ true → AgreesAt m u (m.txns t).phase k cell

-- so a replica of the group has the change in each of its cells where the verdict adopts it, and else in none
abbrev pub GroupAgrees : Size → State → Type 0
GroupAgrees size m =
    (t u i : ℕ) (group : Replicas) (adopts : Bool) (cell : Cell) → (m.txns t).stage ≡ Settling u group adopts → is_unsettled (m.changes u).verdict ≡ true → i < size.replicas → group i ≡ true →
    has_cell (m.changes u).cells cell ≡ true → has_change (applied m i cell) u ≡ adopts

pub record KeepsAgreeing (size : Size) (m : State) : Type 0 where
  pub seen : SeenAgree m
  pub group : GroupAgrees size m

abbrev pub EveryGroupAgrees : Type 0
EveryGroupAgrees = (size : Size) (m : State) → IsReached size m → KeepsAgreeing size m
