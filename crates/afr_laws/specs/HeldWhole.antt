-- A brick has an unsettled change in its copies of all of the change's cells, or of none. It is shown here for each step
-- from a state in which no replacement is at the front of a line. Ours.
use Rattle.std.specs.Prelude.{◌≡◌, ℕ, Bool, true, false, List, [], ◌∷◌}
use Rattle.fop_types.specs.declared.cells.Cell.{Cell}
use Rattle.afr_machine.specs.Replicas.{Size}
use Rattle.afr_machine.specs.Touching.{has_cell}
use Rattle.afr_machine.specs.Copies.{has_change}
use Rattle.afr_machine.specs.Requests.{Ask, Input}
use Rattle.afr_machine.specs.Requests.Ask.{Replace}
use Rattle.afr_machine.specs.Requests.Input.{Asked, Steered}
use Rattle.afr_machine.specs.Changes.{is_unsettled}
use Rattle.afr_machine.specs.States.{State}
use Rattle.afr_machine.specs.Steps.{Step, Allowed, after, IsReached}
use Rattle.afr_laws.specs.Numbers.{applied}

abbrev pub HeldWhole : State → Type 0
HeldWhole m =
    (u k : ℕ) (c d : Cell) → is_unsettled (m.changes u).verdict ≡ true → has_cell (m.changes u).cells c ≡ true → has_cell (m.changes u).cells d ≡ true →
    has_change (applied m k c) u ≡ has_change (applied m k d) u

abbrev pub replaces : Ask → Bool
replaces (Replace cell found) = true
replaces other = false

abbrev pub NextIsNoCopy : List Input → Type 0
NextIsNoCopy [] = Unit {0}
NextIsNoCopy (Asked by ask ∷ is) = replaces ask ≡ false
NextIsNoCopy (Steered control ∷ is) = Unit {0}

abbrev pub StepsKeepHeldWhole : Type 0
StepsKeepHeldWhole = (size : Size) (m : State) (step : Step) → IsReached size m → Allowed size m step → ((k : ℕ) → NextIsNoCopy (m.bricks k).line) → HeldWhole m → HeldWhole (after size m step)
