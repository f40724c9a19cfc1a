-- Who accuses a replica and goes on doing so: the brick's row accuses it, and no clear in the brick's line names it. Ours.
use Rattle.std.specs.Prelude.{◌≡◌, ◌≤◌, ◌||◌, ◌&&◌, ℕ, Bool, true, false, not, List, [], ◌∷◌}
use Rattle.fop_types.specs.declared.cells.Cell.{Cell}
use Rattle.afr_machine.specs.Replicas.{Replicas, Size, count}
use Rattle.afr_machine.specs.Touching.{has_cell}
use Rattle.afr_machine.specs.Requests.{Input}
use Rattle.afr_machine.specs.Requests.Ask.{Clear}
use Rattle.afr_machine.specs.Requests.Input.{Asked, Steered}
use Rattle.afr_machine.specs.Bricks.{Brick}
use Rattle.afr_machine.specs.States.{State}
use Rattle.afr_machine.specs.Steps.{Step, Allowed, after}
use Rattle.afr_laws.specs.Rows.{accuses_at, pardons}

-- a clear in the line names the replica on the cell, whatever its connection
abbrev pub pardons_coming : List Input → Cell → ℕ → Bool
pardons_coming [] cell i = false
pardons_coming (Asked by ask ∷ is) cell i = pardons ask cell i || pardons_coming is cell i
pardons_coming (Steered control ∷ is) cell i = pardons_coming is cell i

abbrev pub stays_accusing : Brick → Cell → ℕ → Bool
stays_accusing b cell i = accuses_at b.store cell i && not (pardons_coming b.line cell i)

abbrev pub accusers_staying : State → Cell → ℕ → Replicas
accusers_staying m cell i k = stays_accusing (m.bricks k) cell i

-- a quorum accuses the replica on the cell and goes on doing so
abbrev pub IsAccusedByMany : Size → State → Cell → ℕ → Type 0
IsAccusedByMany size m cell i = size.quorum ≤ count size.replicas (accusers_staying m cell i)

-- ---- steps

-- the step sends a clear to the brick that names the replica on the cell
pub record SendsPardon (step : Step) (k : ℕ) (cell : Cell) (i : ℕ) : Type 0 where
  pub txn : ℕ
  pub first : Bool
  pub cells : List Cell
  pub who : Replicas
  pub is : step ≡ Step.Asks txn k first (Clear cells who)
  pub covers : has_cell cells cell ≡ true
  pub names : who i ≡ true

-- whoever accuses a replica goes on doing so, unless the step sends it such a clear
abbrev pub AccusationsStay : Type 0
AccusationsStay =
    (size : Size) (m : State) (step : Step) → Allowed size m step → (k i : ℕ) (cell : Cell) → accusers_staying m cell i k ≡ true → (SendsPardon step k cell i → ⊥) →
    accusers_staying (after size m step) cell i k ≡ true
