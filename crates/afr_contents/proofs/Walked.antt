-- A replica's copy stays good as its line is served, whichever requests of it are served, or the replica is accused.
use Rattle.std.proofs.Common.{◌≡◌, ℕ, true, false, ◌⊎◌, inl, inr}
use Rattle.std.specs.Prelude.{List, [], ◌∷◌}
use Rattle.fop_types.specs.StoreOps.{needs}
use Rattle.fop_types.specs.declared.cells.Cell.{Cell}
use Rattle.fop_types.specs.declared.store_ops.StoreOp.{StoreOp}
use Rattle.afr_machine.specs.Replicas.{Size, nobody}
use Rattle.afr_machine.specs.Touching.{has_cell}
use Rattle.afr_machine.specs.Copies.{Store}
use Rattle.afr_machine.specs.Requests.{Sender, Ask, Input}
use Rattle.afr_machine.specs.Requests.Ask.{Op, Replace}
use Rattle.afr_machine.specs.Requests.Input.{Asked, Steered}
use Rattle.afr_machine.specs.Bricks.{stored_by}
use Rattle.afr_machine.specs.States.{State}
use Rattle.afr_machine.specs.Steps.{IsReached}
use Rattle.afr_laws.specs.Senders.{EachInput}
use Rattle.afr_laws.specs.Copies.{Carries}
use Rattle.afr_laws.specs.OneBirth.{BearsAsBorn}
use Rattle.afr_laws.proofs.Bools.{apart_bools, is_or_not}
use Rattle.afr_laws.proofs.Births.Steps.{every_cell_is_born_once}
use Rattle.afr_laws.proofs.Copies.Steps.{copies_are_of_changes}
use Rattle.afr_soundness.proofs.Copied.Lines.{each_both}
use Rattle.afr_soundness.proofs.Copied.Stores.{recopies}
use Rattle.afr_contents.specs.Staying.{IsAccusedByMany}
use Rattle.afr_contents.specs.Good.{IsGood, IsSettledCopy}
use Rattle.afr_contents.specs.Lasting.{IsAccusedApart}
use Rattle.afr_contents.specs.Coming.{FindsSettled, IsRightIn, IsRightAt, AtEachStore, EveryCopyStaysGood}
use Rattle.afr_contents.proofs.Inputs.{both_each, Both}
use Rattle.afr_contents.proofs.Once.{IsApartOn, AlterOnce, lines_alter_once}
use Rattle.afr_contents.proofs.Served.{stored_same, stored_good, stored_right}
use Rattle.afr_contents.proofs.LeftGood.{many_of, copies_of}
use Rattle.afr_contents.proofs.Coming.{comes_good}

module _ (size : Size) (m : State) (r : IsReached size m) (i : ℕ) where
  abbrev Fine : Store → Type 0
  Fine store = (cell : Cell) → IsGood m cell (store cell).copy ⊎ IsAccusedByMany size m cell i

  -- what is known of each request in the line
  record Known (store : Store) (by : Sender) (ask : Ask) : Type 0 where
    right : IsRightIn size m i store ask
    carries : Carries m.changes ask
    born : BearsAsBorn m.born ask

  module _ (store : Store) (by : Sender) (ask : Ask) (known : Known store by ask) where
    -- the request is served
    served : Fine store → Fine (stored_by ask store)
    served fine cell = by_case (fine cell) (is_or_not (recopies ask cell)) where
      forget : IsGood m cell (stored_by ask store cell).copy ⊎ IsAccusedApart size m cell i nobody → IsGood m cell (stored_by ask store cell).copy ⊎ IsAccusedByMany size m cell i
      forget (inl good) = inl good
      forget (inr accused) = inr (many_of size m i cell accused)

      by_case : IsGood m cell (store cell).copy ⊎ IsAccusedByMany size m cell i → (recopies ask cell ≡ true) ⊎ (recopies ask cell ≡ false) → IsGood m cell (stored_by ask store cell).copy ⊎ IsAccusedByMany size m cell i
      by_case (inr accused) changes = inr accused
      by_case (inl good) (inl has) = forget (stored_right size m r store cell good i ask known.carries known.born has known.right)
      by_case (inl good) (inr none) = inl (stored_good size m r store cell good ask known.carries known.born none)

    -- those behind it find what they found
    module _ (u : ℕ) (op : StoreOp) (apart : (cell : Cell) → recopies ask cell ≡ true → has_cell (needs op) cell ≡ false) where
      unchanged : (cell : Cell) → has_cell (needs op) cell ≡ true → (recopies ask cell ≡ true) ⊎ (recopies ask cell ≡ false) → recopies ask cell ≡ false
      unchanged cell has (inl some) = apart_bools has (apart cell some)
      unchanged cell has (inr none) = none

      finds_still : FindsSettled m store u op → FindsSettled m (stored_by ask store) u op
      finds_still h cell has = ((h cell has).0, record { held = s.held; is = stored_same store cell ask (unchanged cell has (is_or_not (recopies ask cell))) s.held s.is; changes = s.changes; content = s.content }) where
        s : IsSettledCopy m cell (store cell).copy
        s = (h cell has).1

    right_still : (b : Sender) (other : Ask) → IsApartOn ask b other → IsRightIn size m i store other → IsRightIn size m i (stored_by ask store) other
    right_still b (Op u op) apart (inl finds) = inl (finds_still u op apart finds)
    right_still b (Op u op) apart (inr accused) = inr accused
    right_still b (Replace at found) apart right = right
    right_still b other apart right = tt

    behind : (b : Sender) (other : Ask) → Known store b other → IsApartOn ask b other → Known (stored_by ask store) b other
    behind b other k apart = record { right = right_still b other apart k.right; carries = k.carries; born = k.born }

  walk : (line : List Input) (store : Store) → Fine store → EachInput (Known store) line → AlterOnce line → AtEachStore Fine line store
  walk [] store fine known once = fine
  walk (Asked by ask ∷ is) store fine known once = (
    fine,
    (
      walk is store fine known.1 once.1,
      walk is (stored_by ask store) (served store by ask known.0 fine) (each_both (Known store) (IsApartOn ask) (Known (stored_by ask store)) (behind store by ask known.0) is known.1 once.0) once.1,
    ),
  )
  walk (Steered control ∷ is) store fine known once = walk is store fine known once

pub copies_stay_good : EveryCopyStaysGood
copies_stay_good size m is_size r i few = walk size m r i (m.bricks i).line (m.bricks i).store (λ cell. copies_of size m (comes_good size m is_size r).copies i cell few) known (lines_alter_once size m r i) where
  known : EachInput (Known size m r i (m.bricks i).store) (m.bricks i).line
  known = each_both (λ by ask. IsRightAt size m i ask) (Both (λ by ask. Carries m.changes ask) (λ by ask. BearsAsBorn m.born ask)) (Known size m r i (m.bricks i).store) (λ by ask a b. record { right = a; carries = b.0; born = b.1 }) (m.bricks i).line
      ((comes_good size m is_size r).lines i few)
      (both_each (λ by ask. Carries m.changes ask) (λ by ask. BearsAsBorn m.born ask) (m.bricks i).line ((copies_are_of_changes size m r).bricks i).line ((every_cell_is_born_once size m r).one.bricks i).line)
