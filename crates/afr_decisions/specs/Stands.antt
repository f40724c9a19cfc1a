-- A change is decided once, and the decision stands. Ours.
use Rattle.std.specs.Prelude.{◌≡◌, ◌≢◌, ◌≤◌, ◌<◌, ◌⊎◌, ℕ, Bool, true, not, Some}
use Rattle.afr_machine.specs.Replicas.{Replicas, Size, IsSize, nobody, count}
use Rattle.afr_machine.specs.Changes.{Change, is_unsettled, verdict_of}
use Rattle.afr_machine.specs.Phases.{Deciding}
use Rattle.afr_machine.specs.Phases.Deciding.{NoChange, ByPosts, BySettles}
use Rattle.afr_machine.specs.Transactions.{decided_by}
use Rattle.afr_machine.specs.States.{State}
use Rattle.afr_machine.specs.Steps.{Step, Allowed, after, IsReached}
use Rattle.afr_decisions.specs.Settlings.{IsSettling}

-- a lock phase that decides the change so: posts adopt, settles go by their group
abbrev pub DecidesAs : ℕ → Bool → Deciding → Type 0
DecidesAs u adopts NoChange = ⊥
DecidesAs u adopts (ByPosts v) = (v ≡ u) × (adopts ≡ true)
DecidesAs u adopts (BySettles v group verdict) = (v ≡ u) × (verdict ≡ adopts)

-- who takes the change by it, or leaves it
abbrev pub spared_by : (ℕ → Change) → Deciding → Replicas
spared_by changes NoChange = nobody
spared_by changes (ByPosts u) = (changes u).done
spared_by changes (BySettles u group adopts) = group

-- a quorum confirmed the posts or settles of a lock phase that decides the change so
pub record IsDecidedBy (size : Size) (m : State) (p u : ℕ) (adopts : Bool) : Type 0 where
  pub one : 1 ≤ p
  pub low : p ≤ m.ended
  pub decides : DecidesAs u adopts (m.phases p).decides
  pub many : size.quorum ≤ count size.replicas (m.phases p).confirmed

pub record WasDecided (size : Size) (m : State) (u : ℕ) (adopts : Bool) : Type 0 where
  pub phase : ℕ
  pub is : IsDecidedBy size m phase u adopts

-- No replica takes the change by one lock phase and leaves it by another which settles it later. So where a quorum confirmed one
-- of two that decide it, the later one agrees, confirmed or not; and no two that a quorum confirmed differ, nor two transactions.
-- A change that was decided was so by a quorum, and a decision that comes again agrees with the verdict.
pub record DecisionsStand (size : Size) (m : State) : Type 0 where
  pub sparing : (p at u i : ℕ) (adopts verdict : Bool) (group : Replicas) → 1 ≤ p → DecidesAs u adopts (m.phases p).decides → IsSettling m at u group verdict → p < at → i < size.replicas → group i ≡ true → spared_by m.changes (m.phases p).decides i ≡ true → adopts ≡ verdict
  pub later : (p at u : ℕ) (adopts verdict : Bool) (group : Replicas) → IsDecidedBy size m p u adopts → IsSettling m at u group verdict → p < at → adopts ≡ verdict
  pub apart : (p q u : ℕ) (adopts verdict : Bool) → IsDecidedBy size m p u adopts → IsDecidedBy size m q u verdict → adopts ≡ verdict
  pub transactions : (s t u : ℕ) (adopts verdict : Bool) → decided_by (m.txns s).stage ≡ Some (u, adopts) → size.quorum ≤ count size.replicas (m.txns s).confirmed → decided_by (m.txns t).stage ≡ Some (u, verdict) → size.quorum ≤ count size.replicas (m.txns t).confirmed → adopts ≡ verdict
  pub was : (u : ℕ) (adopts : Bool) → (m.changes u).verdict ≡ verdict_of adopts → WasDecided size m u adopts
  pub verdict : (p u : ℕ) (adopts : Bool) → IsDecidedBy size m p u adopts → (is_unsettled (m.changes u).verdict ≡ true) ⊎ ((m.changes u).verdict ≡ verdict_of adopts)
  pub again : (t u : ℕ) (adopts : Bool) → decided_by (m.txns t).stage ≡ Some (u, adopts) → size.quorum ≤ count size.replicas (m.txns t).confirmed → (is_unsettled (m.changes u).verdict ≡ true) ⊎ ((m.changes u).verdict ≡ verdict_of adopts)

abbrev pub EveryDecisionStands : Type 0
EveryDecisionStands = (size : Size) (m : State) → IsSize size → IsReached size m → DecisionsStand size m

-- ---- from one state on

-- the states that allowed steps lead to from this one
pub data IsLater (size : Size) (m : State) : State → Type 0 where
  Now : IsLater size m m
  Further : (new : State) → (step : Step) → IsLater size m new → Allowed size new step → IsLater size m (after size new step)

-- What was decided stays so: a change that was adopted is never dropped, nor the reverse. A quorum that confirmed stays one: a
-- change whose posts a quorum confirmed is never dropped, and one that a quorum settled is never decided the other way.
pub record VerdictsStand (size : Size) (m new : State) : Type 0 where
  pub decided : (u : ℕ) (adopts : Bool) → (m.changes u).verdict ≡ verdict_of adopts → (new.changes u).verdict ≡ verdict_of adopts
  pub confirmed : (p u : ℕ) (adopts : Bool) → IsDecidedBy size m p u adopts → IsDecidedBy size new p u adopts
  pub never : (p u : ℕ) (adopts : Bool) → IsDecidedBy size m p u adopts → (new.changes u).verdict ≢ verdict_of (not adopts)

abbrev pub EveryVerdictStands : Type 0
EveryVerdictStands = (size : Size) (m new : State) → IsSize size → IsReached size m → IsLater size m new → VerdictsStand size m new
