-- Where a change is decided, each replica has it as decided, or a quorum accuses the replica and goes on doing so. Ours.
use Rattle.std.specs.Prelude.{◌≡◌, ◌<◌, ◌⊎◌, ℕ, Bool, true}
use Rattle.fop_types.specs.declared.cells.Cell.{Cell}
use Rattle.afr_machine.specs.Replicas.{Size}
use Rattle.afr_machine.specs.Touching.{has_cell}
use Rattle.afr_machine.specs.Copies.{has_change}
use Rattle.afr_machine.specs.Changes.{is_unsettled}
use Rattle.afr_machine.specs.States.{State}
use Rattle.afr_machine.specs.Steps.{MayDecide, IsReached}
use Rattle.afr_laws.specs.Numbers.{applied}
use Rattle.afr_contents.specs.Staying.{IsAccusedByMany}

-- the replica has the change in its copy of each cell where the verdict adopts it, and in none where it does not; or it is
-- accused on each
abbrev pub HasAsDecided : State → ℕ → Bool → ℕ → Type 0
HasAsDecided m u adopts i = (cell : Cell) → has_cell (m.changes u).cells cell ≡ true → has_change (applied m i cell) u ≡ adopts

abbrev pub IsAccusedOnEach : Size → State → ℕ → ℕ → Type 0
IsAccusedOnEach size m u i = (cell : Cell) → has_cell (m.changes u).cells cell ≡ true → IsAccusedByMany size m cell i

-- at the moment at which an unsettled change may be decided
abbrev pub DecisionsSpread : Size → State → Type 0
DecisionsSpread size m =
    (t : ℕ) (h : MayDecide size m t) → is_unsettled (m.changes h.change).verdict ≡ true → (i : ℕ) → i < size.replicas →
    HasAsDecided m h.change h.adopts i ⊎ IsAccusedOnEach size m h.change i

abbrev pub EveryDecisionIsSpread : Type 0
EveryDecisionIsSpread = (size : Size) (m : State) → IsReached size m → DecisionsSpread size m
