-- Lock phases that overtake each other: the transaction of an earlier one has no open grant where a later one reached. Ours.
use Rattle.std.specs.Prelude.{◌≡◌, ◌<◌, ◌≤◌, ◌+◌, ℕ, true, false}
use Rattle.afr_machine.specs.Replicas.{Size, count}
use Rattle.afr_machine.specs.Touching.{share}
use Rattle.afr_machine.specs.States.{State, phase_of}
use Rattle.afr_machine.specs.Turns.{open_grants}
use Rattle.afr_machine.specs.Steps.{IsReached}
use Rattle.afr_laws.specs.Fresh.{is_behind}
use Rattle.afr_laws.specs.Work.{shares_of}

-- a later lock phase ended, over a cell that the transaction's own lock phase is over
pub record IsOvertakenBy (m : State) (t p : ℕ) : Type 0 where
  pub later : (m.txns t).phase < p
  pub ended : p ≤ m.ended
  pub common : share (phase_of m t).cells (m.phases p).cells ≡ true

-- while it holds exclusive locks, none of its open grants is of a brick that the later phase reached
abbrev pub OvertakenApart : State → Type 0
OvertakenApart m =
    (t p k : ℕ) → is_behind (m.txns t).stage ≡ true → shares_of (m.txns t).job (m.txns t).work ≡ false → IsOvertakenBy m t p → (m.phases p).reached k ≡ true →
    open_grants m t k ≡ false

-- every lock phase that has ended reached a quorum
abbrev pub PhasesReachMany : Size → State → Type 0
PhasesReachMany size m = (p : ℕ) → 1 ≤ p → p ≤ m.ended → size.quorum ≤ count size.replicas (m.phases p).reached

-- so one that was overtaken has fewer open grants than a quorum
abbrev pub OvertakenHasFew : Size → State → Type 0
OvertakenHasFew size m =
    (t p : ℕ) → is_behind (m.txns t).stage ≡ true → shares_of (m.txns t).job (m.txns t).work ≡ false → IsOvertakenBy m t p →
    count size.replicas (open_grants m t) + size.quorum ≤ size.replicas

pub record KeepsOvertakenApart (size : Size) (m : State) : Type 0 where
  pub apart : OvertakenApart m
  pub many : PhasesReachMany size m
  pub few : OvertakenHasFew size m

abbrev pub EveryOvertakenIsApart : Type 0
EveryOvertakenIsApart = (size : Size) (m : State) → IsReached size m → KeepsOvertakenApart size m
