-- Who was sound in a lock phase, and whom neither it nor a later one accuses, keeps few accusers. Ours.
use Rattle.std.specs.Prelude.{◌≡◌, ◌<◌, ◌≤◌, ◌+◌, ◌-◌, ◌&&◌, ◌||◌, ℕ, Bool, true, false, List, [], ◌∷◌}
use Rattle.fop_types.specs.declared.cells.Cell.{Cell}
use Rattle.afr_machine.specs.Replicas.{Replicas, Size, IsSize, outside, count}
use Rattle.afr_machine.specs.Touching.{has_cell}
use Rattle.afr_machine.specs.Copies.{rows_of}
use Rattle.afr_machine.specs.Requests.{Input}
use Rattle.afr_machine.specs.Requests.Input.{Asked, Steered}
use Rattle.afr_machine.specs.Bricks.{Brick}
use Rattle.afr_machine.specs.Changes.{Change}
use Rattle.afr_machine.specs.Phases.{Phase, IsSoundIn}
use Rattle.afr_machine.specs.Transactions.{Stage}
use Rattle.afr_machine.specs.Transactions.Stage.{Posting, Settling}
use Rattle.afr_machine.specs.States.{State, phase_of}
use Rattle.afr_machine.specs.Steps.{IsReached}
use Rattle.afr_laws.specs.Rows.{accuses_at, adds}
use Rattle.afr_laws.specs.Seen.{IsSuperseded}

-- ---- whom posts and settles accuse

-- the lock phase accuses whom the posts or settles of this stage accuse
abbrev pub IsAccusedIn : Size → (ℕ → Change) → Stage → Phase → Type 0
IsAccusedIn size changes (Posting u) phase = (i : ℕ) → outside size (changes u).done i ≡ true → phase.accused i ≡ true
IsAccusedIn size changes (Settling u group adopts) phase = (i : ℕ) → outside size group i ≡ true → phase.accused i ≡ true
IsAccusedIn size changes other phase = Unit {0}

abbrev pub EachAccusedIsKnown : Size → State → Type 0
EachAccusedIsKnown size m = (t : ℕ) → IsAccusedIn size m.changes (m.txns t).stage (phase_of m t)

-- ---- accusers, and those to come

-- a request in the line accuses
abbrev pub comes : List Input → Cell → ℕ → Bool
comes [] cell i = false
comes (Asked by ask ∷ is) cell i = adds ask cell i || comes is cell i
comes (Steered control ∷ is) cell i = comes is cell i

-- the brick's row accuses the replica, or a post or settle in its line does, whatever its connection
abbrev pub accuses_coming : Brick → Cell → ℕ → Bool
accuses_coming b cell i = accuses_at b.store cell i || comes b.line cell i

abbrev pub accusers_coming : State → Cell → ℕ → Replicas
accusers_coming m cell i k = accuses_coming (m.bricks k) cell i

-- ---- lock phases that spare a replica

-- neither the lock phase nor a later one over the cell that wrote accuses the replica
pub record IsSpared (m : State) (p : ℕ) (cell : Cell) (i : ℕ) : Type 0 where
  pub itself : (m.phases p).accused i ≡ false
  pub later : (at : ℕ) → p ≤ at → at ≤ m.ended → has_cell (m.phases at).cells cell ≡ true → (m.phases at).wrote ≡ true → (m.phases at).accused i ≡ false

-- the replica is present, does not accuse itself, and few of those that were reached accuse it
pub record HasFewAccusers (size : Size) (m : State) (phase : Phase) (cell : Cell) (i : ℕ) : Type 0 where
  pub present : (rows_of (m.bricks i).store cell).present ≡ true
  pub itself : accusers_coming m cell i i ≡ false
  pub few : count size.replicas (λ k. phase.reached k && accusers_coming m cell i k) + (size.replicas - size.quorum) < count size.replicas phase.reached

-- of each replica that was sound in a lock phase that has ended, and is spared from then on
abbrev pub SoundWithinReached : Size → State → Type 0
SoundWithinReached size m =
    (p i : ℕ) (cell : Cell) → 1 ≤ p → p ≤ m.ended → has_cell (m.phases p).cells cell ≡ true → IsSoundIn size (m.phases p) cell i → IsSpared m p cell i →
    HasFewAccusers size m (m.phases p) cell i

-- so fewer than a quorum of all replicas accuse it
abbrev pub SoundIsFree : Size → State → Type 0
SoundIsFree size m =
    (p i : ℕ) (cell : Cell) → 1 ≤ p → p ≤ m.ended → has_cell (m.phases p).cells cell ≡ true → IsSoundIn size (m.phases p) cell i → IsSpared m p cell i →
    count size.replicas (accusers_coming m cell i) < size.quorum

-- of those over the cell that wrote, it ended last
pub record IsLastPhase (m : State) (p : ℕ) (cell : Cell) : Type 0 where
  pub one : 1 ≤ p
  pub low : p ≤ m.ended
  pub covers : has_cell (m.phases p).cells cell ≡ true
  pub wrote : (m.phases p).wrote ≡ true
  pub last : IsSuperseded m.phases m.ended p cell → ⊥

-- so whom the last lock phase found sound, and does not accuse, is free
abbrev pub LastPhaseFrees : Size → State → Type 0
LastPhaseFrees size m =
    (p i : ℕ) (cell : Cell) → IsLastPhase m p cell → IsSoundIn size (m.phases p) cell i → (m.phases p).accused i ≡ false →
    HasFewAccusers size m (m.phases p) cell i × (count size.replicas (accusers_coming m cell i) < size.quorum)

pub record KeepsSound (size : Size) (m : State) : Type 0 where
  pub accused : EachAccusedIsKnown size m
  pub within : SoundWithinReached size m
  pub free : SoundIsFree size m
  pub last : LastPhaseFrees size m

abbrev pub EverySoundIsFree : Type 0
EverySoundIsFree = (size : Size) (m : State) → IsSize size → IsReached size m → KeepsSound size m
