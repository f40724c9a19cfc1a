-- What a lock phase decides, and whom it accuses by that. Ours.
use Rattle.std.specs.Prelude.{◌≡◌, ◌≤◌, ◌⊎◌, ℕ, Bool, true, false, Option, Some, None}
use Rattle.afr_machine.specs.Replicas.{Replicas, Size, outside}
use Rattle.afr_machine.specs.Changes.{Change}
use Rattle.afr_machine.specs.Phases.{Phase, Deciding}
use Rattle.afr_machine.specs.Phases.Deciding.{NoChange, ByPosts, BySettles}
use Rattle.afr_machine.specs.Transactions.{Work, Stage, Txn}
use Rattle.afr_machine.specs.Transactions.Work.{Own, Settles}
use Rattle.afr_machine.specs.Transactions.Stage.{Locking, Locked, Marking, Applying, Posting, Settling, Bearing, Copying}
use Rattle.afr_machine.specs.States.{State}
use Rattle.afr_machine.specs.Steps.{IsReached}
use Rattle.afr_laws.specs.OwnChanges.{was_unsettled}
use Rattle.afr_laws.specs.Fresh.{is_behind}

-- ---- whom a lock phase accuses

abbrev pub AccusesNobody : Replicas → Type 0
AccusesNobody accused = (i : ℕ) → accused i ≡ false

abbrev pub AccusesOutside : Size → Replicas → Replicas → Type 0
AccusesOutside size spared accused = (i : ℕ) → accused i ≡ outside size spared i

-- exactly those that its posts or settles accuse, once there are such; posts are sent of a change that became unsettled
abbrev pub IsAccusedBy : Size → (ℕ → Change) → Deciding → Replicas → Type 0
IsAccusedBy size changes NoChange accused = AccusesNobody accused
IsAccusedBy size changes (ByPosts u) accused = AccusesNobody accused ⊎ ((was_unsettled (changes u).verdict ≡ true) × AccusesOutside size (changes u).done accused)
IsAccusedBy size changes (BySettles u group adopts) accused = AccusesOutside size group accused

-- ---- whose change it decides

-- The change is that of the lock phase's own transaction, which is behind no other lock phase from then on.
pub record IsMarkedIn (m : State) (p u : ℕ) : Type 0 where
  pub one : 1 ≤ u
  pub drawn : u ≤ m.drawn
  pub by : (m.changes u).by ≡ (m.phases p).by
  pub begun : (m.phases p).by ≤ m.begun
  pub own : (m.txns (m.phases p).by).own ≡ u
  pub phase : (m.txns (m.phases p).by).phase ≡ p
  pub cells : (m.phases p).cells ≡ (m.changes u).cells

-- the change became unsettled before it is settled
pub record IsSettledIn (m : State) (p u : ℕ) : Type 0 where
  pub drawn : u ≤ m.drawn
  pub sent : was_unsettled (m.changes u).verdict ≡ true
  pub cells : (m.phases p).cells ≡ (m.changes u).cells

abbrev pub IsDecidedIn : State → ℕ → Deciding → Type 0
IsDecidedIn m p NoChange = Unit {0}
IsDecidedIn m p (ByPosts u) = IsMarkedIn m p u
IsDecidedIn m p (BySettles u group adopts) = IsSettledIn m p u

-- ---- what the lock phase of a transaction decides, by its stage

abbrev pub IsSettledBy : ℕ → Replicas → Deciding → Type 0
IsSettledBy u group (BySettles change by adopts) = (change ≡ u) × (by ≡ group)
IsSettledBy u group other = ⊥

-- a copy comes before the mark, or follows a settling from whose group it copies
abbrev pub IsCopiedFrom : Work → Option Replicas → Deciding → Type 0
IsCopiedFrom Own None decides = decides ≡ NoChange
IsCopiedFrom (Settles u) (Some group) decides = IsSettledBy u group decides
IsCopiedFrom work group decides = ⊥

abbrev pub DecidesIn : Size → (ℕ → Change) → Work → Stage → Phase → Type 0
DecidesIn size changes work Locked phase = phase.decides ≡ NoChange
DecidesIn size changes work (Marking u) phase = (phase.decides ≡ ByPosts u) × AccusesNobody phase.accused
DecidesIn size changes work (Applying u) phase = (phase.decides ≡ ByPosts u) × AccusesNobody phase.accused
DecidesIn size changes work (Posting u) phase = (phase.decides ≡ ByPosts u) × AccusesOutside size (changes u).done phase.accused
DecidesIn size changes work (Settling u group adopts) phase = phase.decides ≡ BySettles u group adopts
DecidesIn size changes work Bearing phase = phase.decides ≡ NoChange
DecidesIn size changes work (Copying run) phase = IsCopiedFrom work run.group phase.decides
DecidesIn size changes work other phase = Unit {0}

abbrev pub is_locking : Stage → Bool
is_locking (Locking cells shared next) = true
is_locking other = false

-- a lock phase behind which a transaction is has ended; its own change is drawn behind its last lock phase
pub record KnowsDeciding (size : Size) (changes : ℕ → Change) (phases : ℕ → Phase) (x : Txn) : Type 0 where
  pub one : is_behind x.stage ≡ true → 1 ≤ x.phase
  pub unmarked : is_locking x.stage ≡ true → x.own ≡ 0
  pub decides : DecidesIn size changes x.work x.stage (phases x.phase)

-- ---- every list of steps

pub record DecidesExactly (size : Size) (m : State) : Type 0 where
  pub accused : (p : ℕ) → 1 ≤ p → p ≤ m.ended → IsAccusedBy size m.changes (m.phases p).decides (m.phases p).accused
  pub decided : (p : ℕ) → 1 ≤ p → p ≤ m.ended → IsDecidedIn m p (m.phases p).decides
  pub transactions : (t : ℕ) → KnowsDeciding size m.changes m.phases (m.txns t)

abbrev pub EveryPhaseAccusesAsItDecides : Type 0
EveryPhaseAccusesAsItDecides = (size : Size) (m : State) → IsReached size m → DecidesExactly size m
