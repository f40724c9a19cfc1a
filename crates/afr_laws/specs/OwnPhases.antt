-- A lock phase that has ended is that of one transaction, and of nobody else. Ours.
use Rattle.std.specs.Prelude.{◌≡◌, ◌≤◌, ℕ}
use Rattle.afr_machine.specs.Replicas.{Size}
use Rattle.afr_machine.specs.States.{State, phase_of}
use Rattle.afr_machine.specs.Steps.{IsReached}

abbrev pub EachPhaseIsOwn : State → Type 0
EachPhaseIsOwn m = (t : ℕ) → 1 ≤ (m.txns t).phase → (phase_of m t).by ≡ t

-- no two transactions are behind the same one
abbrev pub PhasesAreApart : State → Type 0
PhasesAreApart m = (s t : ℕ) → 1 ≤ (m.txns s).phase → (m.txns s).phase ≡ (m.txns t).phase → s ≡ t

pub record KeepsPhases (m : State) : Type 0 where
  pub own : EachPhaseIsOwn m
  pub apart : PhasesAreApart m

abbrev pub EveryPhaseIsOwn : Type 0
EveryPhaseIsOwn = (size : Size) (m : State) → IsReached size m → KeepsPhases m
