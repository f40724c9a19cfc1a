-- Who accuses a replica goes on doing so until a clear is sent that names it.
use Rattle.std.proofs.Common.{◌≡◌, ◌∙◌, ℕ, Bool, true, false, refl, sym, ap, ◌⊎◌, inl, inr}
use Rattle.std.specs.Prelude.{List, [], ◌∷◌, ◌++◌, ◌&&◌, ◌||◌, not}
use Rattle.fop_types.specs.declared.cells.Cell.{Cell}
use Rattle.afr_machine.specs.Replicas.{Size}
use Rattle.afr_machine.specs.Touching.{has_cell}
use Rattle.afr_machine.specs.Copies.{Store}
use Rattle.afr_machine.specs.Requests.{Sender, Ask, Input}
use Rattle.afr_machine.specs.Requests.Ask.{Clear}
use Rattle.afr_machine.specs.Requests.Input.{Asked, Steered}
use Rattle.afr_machine.specs.Bricks.{Brick}
use Rattle.afr_machine.specs.States.{State}
use Rattle.afr_machine.specs.Sending.{asks_of, inputs_of, sender_of}
use Rattle.afr_machine.specs.Steps.{Step, Allowed, after}
use Rattle.afr_machine.specs.Moves.{BrickMove, IsTaken}
use Rattle.afr_machine.specs.Moves.BrickMove.{Stays, Takes, Hands, Serves, Refuses, GivesUp, Steers}
use Rattle.afr_machine.proofs.BrickMoves.{bricks_move}
use Rattle.afr_laws.specs.Rows.{accuses_at, adds, pardons}
use Rattle.afr_laws.proofs.Bools.{is_or_not, both, both_left, both_right, neither, neither_left, neither_right, not_true, not_false, or_last, or_right}
use Rattle.afr_laws.proofs.Accusers.{accusers_follow}
use Rattle.afr_laws.proofs.Connecting.{served_line, steered_line}
use Rattle.afr_laws.proofs.Copies.Served.{served_store, steered_store}
use Rattle.afr_contents.specs.Staying.{pardons_coming, stays_accusing, accusers_staying, SendsPardon, AccusationsStay}

pub coming_append : (xs ys : List Input) (cell : Cell) (i : ℕ) → pardons_coming xs cell i ≡ false → pardons_coming ys cell i ≡ false → pardons_coming (xs ++ ys) cell i ≡ false
coming_append [] ys cell i none more = more
coming_append (Asked by ask ∷ is) ys cell i none more =
    neither (pardons ask cell i) (pardons_coming (is ++ ys) cell i) (neither_left (pardons ask cell i) (pardons_coming is cell i) none)
    (coming_append is ys cell i (neither_right (pardons ask cell i) (pardons_coming is cell i) none) more)
coming_append (Steered control ∷ is) ys cell i none more = coming_append is ys cell i none more

module _ (size : Size) (m : State) (step : Step) (allowed : Allowed size m step) (k i : ℕ) (cell : Cell) (was : accusers_staying m cell i k ≡ true) (unsent : SendsPardon step k cell i → ⊥) where
  abbrev new : State
  new = after size m step

  accused : accuses_at (m.bricks k).store cell i ≡ true
  accused = both_left (accuses_at (m.bricks k).store cell i) (not (pardons_coming (m.bricks k).line cell i)) was

  none : pardons_coming (m.bricks k).line cell i ≡ false
  none = not_true (pardons_coming (m.bricks k).line cell i) (both_right (accuses_at (m.bricks k).store cell i) (not (pardons_coming (m.bricks k).line cell i)) was)

  -- what is sent now
  unpardoned : (t : ℕ) (first : Bool) (ask : Ask) → step ≡ Step.Asks t k first ask → pardons ask cell i ≡ false
  unpardoned t first (Clear cells who) is = by_case (is_or_not (has_cell cells cell && who i)) where
    by_case : ((has_cell cells cell && who i) ≡ true) ⊎ ((has_cell cells cell && who i) ≡ false) → (has_cell cells cell && who i) ≡ false
    by_case (inl both_are) = absurd (unsent (record { txn = t; first = first; cells = cells; who = who; is = is; covers = both_left (has_cell cells cell) (who i) both_are; names = both_right (has_cell cells cell) (who i) both_are }))
    by_case (inr free) = free
  unpardoned t first other is = refl

  sent : (t : ℕ) (first : Bool) (ask : Ask) → step ≡ Step.Asks t k first ask → pardons_coming (inputs_of (sender_of m t k) (asks_of first ask)) cell i ≡ false
  sent t true ask is = or_right (pardons ask cell i) ∙ unpardoned t true ask is
  sent t false ask is = or_right (pardons ask cell i) ∙ unpardoned t false ask is

  taken : (st : Step) → step ≡ st → (inputs : List Input) → IsTaken m st k inputs → pardons_coming inputs cell i ≡ false
  taken (Step.Asks t j first ask) is inputs h =
      ap (λ l. pardons_coming l cell i) (h.1 ∙ ap (λ n. inputs_of (sender_of m t n) (asks_of first ask)) (sym h.0)) ∙ sent t first ask (is ∙ ap (λ n. Step.Asks t n first ask) (sym h.0))
  taken (Step.Controls j steering) is inputs h = ap (λ l. pardons_coming l cell i) h.1
  taken (Step.Connects j g) is inputs h = ap (λ l. pardons_coming l cell i) h.1
  taken (Step.Cuts j g) is inputs h = ap (λ l. pardons_coming l cell i) h.1
  taken other is inputs h = absurd h

  stays : (b : Brick) → new.bricks k ≡ b → accuses_at b.store cell i ≡ true → pardons_coming b.line cell i ≡ false → accusers_staying new cell i k ≡ true
  stays b is accuses free = ap (λ (x : Brick). stays_accusing x cell i) is ∙ both (accuses_at b.store cell i) (not (pardons_coming b.line cell i)) accuses (not_false free)

  behind : (by : Sender) (ask : Ask) (rest : List Input) → (m.bricks k).line ≡ Asked by ask ∷ rest → (pardons ask cell i || pardons_coming rest cell i) ≡ false
  behind by ask rest front = sym (ap (λ l. pardons_coming l cell i) front) ∙ none

  by_move : BrickMove (IsTaken m step k) (m.bricks k) (new.bricks k) → accusers_staying new cell i k ≡ true
  by_move (Stays is) = ap (λ (x : Brick). stays_accusing x cell i) is ∙ was
  by_move (Takes inputs its is) = stays _ is accused (coming_append (m.bricks k).line inputs cell i none (taken step refl inputs its))
  by_move (Hands first rest front is) = stays _ is accused none
  by_move (Serves by ask rest front would is) =
      stays _ is
      (ap (λ (st : Store). accuses_at st cell i) (served_store (m.bricks k).power by ask (record (m.bricks k) { line = rest })) ∙ accusers_follow ask (m.bricks k).store cell i
      ∙ or_last (adds ask cell i) (accuses_at (m.bricks k).store cell i && not (pardons ask cell i))
      (both (accuses_at (m.bricks k).store cell i) (not (pardons ask cell i)) accused (not_false (neither_left (pardons ask cell i) (pardons_coming rest cell i) (behind by ask rest front)))))
      (ap (λ l. pardons_coming l cell i) (served_line (m.bricks k).power by ask (record (m.bricks k) { line = rest })) ∙ neither_right (pardons ask cell i) (pardons_coming rest cell i) (behind by ask rest front))
  by_move (Refuses by ask answer rest front may_be refusal is) = stays _ is accused (neither_right (pardons ask cell i) (pardons_coming rest cell i) (behind by ask rest front))
  by_move (GivesUp by ask rest front would is) = stays _ is accused (neither_right (pardons ask cell i) (pardons_coming rest cell i) (behind by ask rest front))
  by_move (Steers control rest front is) =
      stays _ is (ap (λ (st : Store). accuses_at st cell i) (steered_store control (record (m.bricks k) { line = rest })) ∙ accused)
      (ap (λ l. pardons_coming l cell i) (steered_line control (record (m.bricks k) { line = rest })) ∙ sym (ap (λ l. pardons_coming l cell i) front) ∙ none)

  pub stays_so : accusers_staying new cell i k ≡ true
  stays_so = by_move (bricks_move size m step allowed k)

pub accusations_stay : AccusationsStay
accusations_stay size m step allowed k i cell was unsent = stays_so size m step allowed k i cell was unsent
