-- What a step makes of the cells that count as present: a birth that is confirmed adds its cells, a change that becomes
-- unsettled those that it touches.
use Rattle.std.proofs.Common.{◌≡◌, ◌∙◌, ℕ, Bool, true, false, refl, sym, ap, ◌⊎◌, inl, inr}
use Rattle.std.specs.Prelude.{List, [], ◌∷◌}
use Rattle.fop_types.specs.declared.cells.Cell.{Cell}
use Rattle.afr_machine.specs.Replicas.{Size}
use Rattle.afr_machine.specs.Touching.{has_cell}
use Rattle.afr_machine.specs.Requests.{Output}
use Rattle.afr_machine.specs.Changes.{is_unsettled}
use Rattle.afr_machine.specs.Transactions.{cells_of_job}
use Rattle.afr_machine.specs.States.{State}
use Rattle.afr_machine.specs.Answering.{without_first_output}
use Rattle.afr_machine.specs.Turns.{Turn, MayTurn, MayConfirm, after_turn, drawing, posting, settling, bearing, clearing}
use Rattle.afr_machine.specs.Steps.{Step, Allowed, MayUnsettle, MayDecide, after, take_in_front, unsettling, deciding, decided, decided_by}
use Rattle.afr_machine.proofs.Keeping.{taken_in_beside}
use Rattle.afr_laws.proofs.Bools.{either_way}

pub data FirmMove (size : Size) (m : State) (step : Step) (cell : Cell) : Type 0 where
  Was : m.firm cell ≡ true → FirmMove size m step cell
  Confirms : (t : ℕ) → step ≡ Step.Turns t Turn.Confirms → MayConfirm size m t → has_cell (cells_of_job (m.txns t).job) cell ≡ true → FirmMove size m step cell
  Unsettles : (t : ℕ) → step ≡ Step.Unsettles t → (h : MayUnsettle size m t) → has_cell (m.changes h.change).cells cell ≡ true → FirmMove size m step cell

module _ (size : Size) (m : State) (cell : Cell) where
  was : (step : Step) (firm : Cell → Bool) → firm ≡ m.firm → firm cell ≡ true → FirmMove size m step cell
  was step firm is h = FirmMove.Was (sym (ap (λ (f : Cell → Bool). f cell) is) ∙ h)

  turned : (t : ℕ) (turn : Turn) → MayTurn size m t turn → (after_turn size m t turn).firm cell ≡ true → FirmMove size m (Step.Turns t turn) cell
  turned t Turn.Confirms h firm = by_case (either_way (has_cell (cells_of_job (m.txns t).job) cell) (m.firm cell) firm) where
    by_case : (has_cell (cells_of_job (m.txns t).job) cell ≡ true) ⊎ (m.firm cell ≡ true) → FirmMove size m (Step.Turns t Turn.Confirms) cell
    by_case (inl has) = FirmMove.Confirms t refl h has
    by_case (inr before) = FirmMove.Was before
  turned t Turn.Marks h firm = was (Step.Turns t Turn.Marks) ((drawing m t (m.txns t).job).firm) (ap (λ j. (drawing m t j).firm) h.job_is) firm
  turned t Turn.Posts h firm = was (Step.Turns t Turn.Posts) ((posting size m t (m.txns t).stage).firm) (ap (λ s. (posting size m t s).firm) h.turn) firm
  turned t (Turn.SettlesAs group adopts) h firm = was (Step.Turns t (Turn.SettlesAs group adopts)) ((settling size m t (m.txns t).work group adopts).firm) (ap (λ w. (settling size m t w group adopts).firm) h.work_is) firm
  turned t Turn.Bears h firm = was (Step.Turns t Turn.Bears) ((bearing m t (m.txns t).job).firm) (ap (λ j. (bearing m t j).firm) h.job_is) firm
  turned t Turn.Clears h firm = was (Step.Turns t Turn.Clears) ((clearing m t (m.txns t).stage).firm) (ap (λ s. (clearing m t s).firm) h.turn) firm
  turned t other h firm = FirmMove.Was firm

  unsettles : (t : ℕ) (h : MayUnsettle size m t) → (unsettling m t (m.txns t).stage).firm cell ≡ true → FirmMove size m (Step.Unsettles t) cell
  unsettles t h firm = by_case (either_way (has_cell (m.changes h.change).cells cell) (m.firm cell) (sym (ap (λ s. (unsettling m t s).firm cell) h.turn) ∙ firm)) where
    by_case : (has_cell (m.changes h.change).cells cell ≡ true) ⊎ (m.firm cell ≡ true) → FirmMove size m (Step.Unsettles t) cell
    by_case (inl has) = FirmMove.Unsettles t refl h has
    by_case (inr before) = FirmMove.Was before

  decides : (t : ℕ) (h : MayDecide size m t) → (decided m (decided_by (m.txns t).stage)).firm ≡ m.firm
  decides t h = ap (λ d. (decided m d).firm) h.decision ∙ by_case h.adopts (is_unsettled (m.changes h.change).verdict) where
    by_case : (a b : Bool) → (deciding m h.change a b).firm ≡ m.firm
    by_case a false = refl
    by_case false true = refl
    by_case true true = refl

  hands : (k : ℕ) (os : List Output) → (take_in_front (without_first_output m k) k os).firm ≡ m.firm
  hands k [] = refl
  hands k (o ∷ os) = (taken_in_beside (without_first_output m k) k o).firm

pub firm_move : (size : Size) (m : State) (step : Step) → Allowed size m step → (cell : Cell) → (after size m step).firm cell ≡ true → FirmMove size m step cell
firm_move size m (Step.Turns t turn) h cell firm = turned size m cell t turn h firm
firm_move size m (Step.HandsIn k) h cell firm = was size m cell (Step.HandsIn k) ((after size m (Step.HandsIn k)).firm) (hands size m cell k (m.bricks k).outputs) firm
firm_move size m (Step.Unsettles t) h cell firm = unsettles size m cell t h firm
firm_move size m (Step.Decides t) h cell firm = was size m cell (Step.Decides t) ((after size m (Step.Decides t)).firm) (decides size m cell t h) firm
firm_move size m other h cell firm = FirmMove.Was firm
