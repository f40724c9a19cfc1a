-- Who confirmed a post or settle of a lock phase: it is noted for good, whatever becomes of the transaction. Ours.
use Rattle.std.specs.Prelude.{◌≡◌, ◌≤◌, ℕ, Bool, true, false}
use Rattle.afr_machine.specs.Replicas.{Size}
use Rattle.afr_machine.specs.Changes.{Change}
use Rattle.afr_machine.specs.Phases.{Phase, Deciding}
use Rattle.afr_machine.specs.Phases.Deciding.{NoChange, ByPosts, BySettles}
use Rattle.afr_machine.specs.Transactions.{Stage}
use Rattle.afr_machine.specs.Transactions.Stage.{Marking, Applying, Posting, Settling}
use Rattle.afr_machine.specs.States.{State, phase_of}
use Rattle.afr_machine.specs.Steps.{IsReached}
use Rattle.afr_soundness.specs.Deciding.{AccusesOutside}

-- The lock phase decides a change. Whoever confirmed a post has applied it, and from then on the lock phase accuses exactly the
-- replicas that have no op wind of the change which ended with Done.
abbrev pub IsReported : Size → (ℕ → Change) → Phase → ℕ → Deciding → Type 0
IsReported size changes phase k NoChange = ⊥
IsReported size changes phase k (ByPosts u) = ((changes u).done k ≡ true) × AccusesOutside size (changes u).done phase.accused
IsReported size changes phase k (BySettles u group adopts) = AccusesOutside size group phase.accused

pub record IsConfirmedBy (size : Size) (m : State) (p k : ℕ) : Type 0 where
  pub reached : (m.phases p).reached k ≡ true
  pub reported : IsReported size m.changes (m.phases p) k (m.phases p).decides

-- from the mark of a change until its posts
abbrev pub is_marking : Stage → Bool
is_marking (Marking u) = true
is_marking (Applying u) = true
is_marking other = false

-- while posts or settles are sent
abbrev pub is_reporting : Stage → Bool
is_reporting (Posting u) = true
is_reporting (Settling u group adopts) = true
is_reporting other = false

-- what is noted in a lock phase; nothing before the posts; and all that the transaction counts
pub record KeepsConfirmed (size : Size) (m : State) : Type 0 where
  pub phases : (p k : ℕ) → 1 ≤ p → p ≤ m.ended → (m.phases p).confirmed k ≡ true → IsConfirmedBy size m p k
  pub none_yet : (t k : ℕ) → is_marking (m.txns t).stage ≡ true → (phase_of m t).confirmed k ≡ false
  pub noted : (t k : ℕ) → is_reporting (m.txns t).stage ≡ true → (m.txns t).confirmed k ≡ true → (phase_of m t).confirmed k ≡ true

abbrev pub EveryConfirmationIsNoted : Type 0
EveryConfirmationIsNoted = (size : Size) (m : State) → IsReached size m → KeepsConfirmed size m
