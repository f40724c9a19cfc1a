-- All that a guarded set keeps, under the names of the rules. Ours.
use Rattle.std.specs.Prelude.{◌≡◌, ◌<◌, ◌≤◌, ◌⊎◌, ℕ, true, List, ◌∷◌}
use Rattle.fop_types.specs.declared.cells.Cell.{Cell}
use Rattle.afr_machine.specs.Replicas.{Replicas, Size, IsSize, count}
use Rattle.afr_machine.specs.Touching.{has_cell}
use Rattle.afr_machine.specs.Changes.{is_unsettled}
use Rattle.afr_machine.specs.States.{State}
use Rattle.afr_machine.specs.Steps.{Step, Allowed, after, IsReached}
use Rattle.afr_machine.specs.Moves.{IsTaken, BrickMove}
use Rattle.afr_laws.specs.Numbers.{applied}
use Rattle.afr_laws.specs.Rows.{accuses_at}
use Rattle.afr_soundness.specs.Replaced.{HasCopy}
use Rattle.afr_decisions.specs.Guarded.{IsGuarded}
use Rattle.afr_contents.specs.Adopted.{adopted_on}
use Rattle.afr_contents.specs.Good.{CopiesGoodOrAccused}

-- ---- copies agree

-- the adopted changes of the cell, or these and the one that is unsettled
pub data AgreesOn (m : State) (cell : Cell) (changes : List ℕ) : Type 0 where
  Exactly : changes ≡ adopted_on m cell → AgreesOn m cell changes
  WithUnsettled : (u : ℕ) → is_unsettled (m.changes u).verdict ≡ true → has_cell (m.changes u).cells cell ≡ true → changes ≡ u ∷ adopted_on m cell → AgreesOn m cell changes

-- the bricks whose rows accuse the replica on the cell
abbrev pub accusers : State → Cell → ℕ → Replicas
accusers m cell i k = accuses_at (m.bricks k).store cell i

-- it has no copy of the cell, or it is accused there by itself or by a quorum
abbrev pub IsConvicted : Size → State → Cell → ℕ → Type 0
IsConvicted size m cell i = (HasCopy m i cell → ⊥) ⊎ ((accusers m cell i i ≡ true) ⊎ (size.quorum ≤ count size.replicas (accusers m cell i)))

-- a replica whose copy does not agree is convicted
abbrev pub CopiesAgree : Size → State → Type 0
CopiesAgree size m = (i : ℕ) (cell : Cell) → i < size.replicas → AgreesOn m cell (applied m i cell) ⊎ IsConvicted size m cell i

-- ---- locks come after what is before them

-- a brick serves its line from the front: whatever comes is at the end
abbrev pub LockAfterEarlier : Size → State → Type 0
LockAfterEarlier size m = (step : Step) → Allowed size m step → (k : ℕ) → BrickMove (IsTaken m step k) (m.bricks k) ((after size m step).bricks k)

-- ---- together

-- `kept` has the others: one_unsettled, unsettled_has_free, present_has_free, sent_on_grant, sole_locks_apart, last_phase_free,
-- decisions_stand, accuses_outsiders, no_other_unsettled
pub record IsGuardedSet (size : Size) (m : State) : Type 0 where
  pub copies_agree : CopiesAgree size m
  pub copies_good : CopiesGoodOrAccused size m
  pub lock_after_earlier : LockAfterEarlier size m
  pub kept : IsGuarded size m

abbrev pub EverySetIsGuarded : Type 0
EverySetIsGuarded = (size : Size) (m : State) → IsSize size → IsReached size m → IsGuardedSet size m
