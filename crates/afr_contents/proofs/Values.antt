-- What a step makes of a copy that is good, or whose brick is accused.
use Rattle.std.proofs.Common.{◌≡◌, ◌∙◌, ℕ, ◌<◌, Bool, true, false, refl, sym, subst, ◌⊎◌, inl, inr, Option, Some}
use Rattle.std.specs.Prelude.{List, ◌∷◌}
use Rattle.fop_types.specs.declared.cells.Cell.{Cell}
use Rattle.afr_machine.specs.Replicas.{Replicas, Size, IsSize, nobody}
use Rattle.afr_machine.specs.Copies.{Copy, Store, changes_of, has_change}
use Rattle.afr_machine.specs.Requests.{Sender, Ask, Input}
use Rattle.afr_machine.specs.Requests.Input.{Asked}
use Rattle.afr_machine.specs.Bricks.{Brick, stored_by}
use Rattle.afr_machine.specs.States.{State}
use Rattle.afr_machine.specs.Steps.{Step, Allowed, after, IsReached}
use Rattle.afr_machine.specs.Moves.{BrickMove, IsTaken}
use Rattle.afr_machine.specs.Moves.BrickMove.{Stays, Takes, Hands, Serves, Refuses, GivesUp, Steers}
use Rattle.afr_machine.proofs.BrickMoves.{bricks_move}
use Rattle.afr_laws.specs.Senders.{EachInput}
use Rattle.afr_laws.specs.Copies.{Carries}
use Rattle.afr_laws.specs.OneBirth.{BearsAsBorn}
use Rattle.afr_laws.proofs.Births.Steps.{every_cell_is_born_once}
use Rattle.afr_laws.proofs.Copies.Steps.{copies_are_of_changes}
use Rattle.afr_laws.proofs.Copies.Served.{served_store, steered_store}
use Rattle.afr_soundness.proofs.Copied.Stores.{recopies}
use Rattle.afr_contents.specs.Good.{IsGood, IsGoodAt, IsSettledCopy}
use Rattle.afr_contents.specs.Naming.{held_by}
use Rattle.afr_contents.specs.Lasting.{IsAccusedApart}
use Rattle.afr_contents.proofs.OfAdopted.{changes_of_adopted}
use Rattle.afr_contents.proofs.Keeping.{DecidesOn, IsDeciding, is_deciding, list_stays, content_stays, good_stays, good_decided}
use Rattle.afr_contents.proofs.Naming.{ConfirmsNow}
use Rattle.afr_contents.proofs.Lasting.{accused_goes}
use Rattle.afr_contents.proofs.Served.{stored_same, stored_good}

pub same_or_not : (a b : Bool) → (a ≡ b) ⊎ (a ≡ b → ⊥)
same_or_not true true = inl refl
same_or_not false false = inl refl
same_or_not true false = inr (λ e. absurd (let no : true ≡ false = e in cc))
same_or_not false true = inr (λ e. absurd (let no : false ≡ true = e in cc))

pub accused_of : (size : Size) (m : State) (cell : Cell) (i : ℕ) (these : Replicas) → IsAccusedApart size m cell i these → IsAccusedApart size m cell i nobody
accused_of size m cell i these a = record { by = a.by; many = a.many; each = a.each; apart = λ k low h. refl }

-- ---- the request at the front of a line

module _ (size : Size) (m : State) (r : IsReached size m) (i : ℕ) (by : Sender) (ask : Ask) (rest : List Input) (front : (m.bricks i).line ≡ Asked by ask ∷ rest) where
  pub front_carries : Carries m.changes ask
  front_carries = (subst (EachInput (λ by ask. Carries m.changes ask)) front ((copies_are_of_changes size m r).bricks i).line).0

  pub front_born : BearsAsBorn m.born ask
  front_born = (subst (EachInput (λ by ask. BearsAsBorn m.born ask)) front ((every_cell_is_born_once size m r).one.bricks i).line).0

module _ (size : Size) (m : State) (is_size : IsSize size) (r : IsReached size m) (step : Step) (allowed : Allowed size m step) where
  abbrev new : State
  new = after size m step

  -- ---- a value, at a brick or on its way to one

  module _ (i : ℕ) (few : i < size.replicas) (cell : Cell) (these those : Replicas) (smaller : (k : ℕ) → those k ≡ true → these k ≡ true) where
    pub value_goes : ((a : IsAccusedApart size m cell i these) → IsAccusedApart size new cell i those) → (copy : Option Copy) →
        ((u : ℕ) (d : DecidesOn size m r step allowed cell u) → (has_change (changes_of copy) u ≡ d.decision.may.adopts) ⊎ IsAccusedApart size new cell i those) →
        IsGood m cell copy ⊎ IsAccusedApart size m cell i these → IsGood new cell copy ⊎ IsAccusedApart size new cell i those
    value_goes stays copy on_decision (inr accused) = inr (stays accused)
    value_goes stays copy on_decision (inl good) = by_decision (is_deciding size m r step allowed cell step refl allowed) where
      decided : (u : ℕ) (d : DecidesOn size m r step allowed cell u) → (has_change (changes_of copy) u ≡ d.decision.may.adopts) ⊎ IsAccusedApart size new cell i those → IsGood new cell copy ⊎ IsAccusedApart size new cell i those
      decided u d (inl has) = inl (good_decided size m r step allowed (changes_of_adopted size m r) cell u d copy has good)
      decided u d (inr accused) = inr accused

      by_decision : IsDeciding size m r step allowed cell → IsGood new cell copy ⊎ IsAccusedApart size new cell i those
      by_decision (IsDeciding.Leaves none) = inl (good_stays size m r step allowed cell none copy good)
      by_decision (IsDeciding.Decides u d) = decided u d (on_decision u d)

    pub accused_on : ((t k : ℕ) → k < size.replicas → these k ≡ false → held_by new t k ≡ true → ConfirmsNow size m r step allowed t i cell → ⊥) → IsAccusedApart size m cell i these → IsAccusedApart size new cell i those
    accused_on none a = accused_goes size m r step allowed i cell is_size few these those smaller a (λ t k low h. none t k low (a.apart k low h))

  -- a copy with exactly the adopted changes keeps them
  pub settled_goes : (cell : Cell) → ((u : ℕ) → DecidesOn size m r step allowed cell u → ⊥) → (copy : Option Copy) → IsSettledCopy m cell copy → IsSettledCopy new cell copy
  settled_goes cell none copy s = record {
    held = s.held;
    is = s.is;
    changes = s.changes ∙ sym (list_stays size m r step allowed cell none);
    content = content_stays size m r step allowed cell none s.held.content s.content;
  }

  -- ---- the brick after the step

  module _ (i : ℕ) (cell : Cell) (P : Option Copy → Type 0) (here : P ((m.bricks i).store cell).copy) (served : (by : Sender) (ask : Ask) (rest : List Input) → (m.bricks i).line ≡ Asked by ask ∷ rest → P (stored_by ask (m.bricks i).store cell).copy) where
    by_move : BrickMove (IsTaken m step i) (m.bricks i) (new.bricks i) → P ((new.bricks i).store cell).copy
    by_move (Serves by ask rest front would is) =
        subst (λ (b : Brick). P (b.store cell).copy) (sym is) (subst (λ (st : Store). P (st cell).copy) (sym (served_store (m.bricks i).power by ask (record (m.bricks i) { line = rest }))) (served by ask rest front))
    by_move (Stays is) = subst (λ (b : Brick). P (b.store cell).copy) (sym is) here
    by_move (Takes inputs its is) = subst (λ (b : Brick). P (b.store cell).copy) (sym is) here
    by_move (Hands first rest front is) = subst (λ (b : Brick). P (b.store cell).copy) (sym is) here
    by_move (Refuses by ask answer rest front may_be refusal is) = subst (λ (b : Brick). P (b.store cell).copy) (sym is) here
    by_move (GivesUp by ask rest front would is) = subst (λ (b : Brick). P (b.store cell).copy) (sym is) here
    by_move (Steers control rest front is) = subst (λ (b : Brick). P (b.store cell).copy) (sym is) (subst (λ (st : Store). P (st cell).copy) (sym (steered_store control (record (m.bricks i) { line = rest }))) here)

    pub moved : P ((new.bricks i).store cell).copy
    moved = by_move (bricks_move size m step allowed i)

  -- ---- a brick whose front does not change the copy

  abbrev pub FrontKeeps : ℕ → Cell → Type 0
  FrontKeeps i cell = (by : Sender) (ask : Ask) (rest : List Input) → (m.bricks i).line ≡ Asked by ask ∷ rest → recopies ask cell ≡ false

  module _ (i : ℕ) (cell : Cell) (keeps : FrontKeeps i cell) where
    pub copy_kept : (held : Copy) → ((m.bricks i).store cell).copy ≡ Some held → ((new.bricks i).store cell).copy ≡ Some held
    copy_kept held is = moved i cell (λ c. c ≡ Some held) is (λ by ask rest front. stored_same (m.bricks i).store cell ask (keeps by ask rest front) held is)

  module _ (i : ℕ) (cell : Cell) (good : IsGoodAt m i cell) where
    -- a request that does not change the copy
    pub front_good : (by : Sender) (ask : Ask) (rest : List Input) → (m.bricks i).line ≡ Asked by ask ∷ rest → recopies ask cell ≡ false → IsGood m cell (stored_by ask (m.bricks i).store cell).copy
    front_good by ask rest front none = stored_good size m r (m.bricks i).store cell good ask (front_carries size m r i by ask rest front) (front_born size m r i by ask rest front) none

    pub kept_good : FrontKeeps i cell → IsGood m cell ((new.bricks i).store cell).copy
    kept_good keeps = moved i cell (IsGood m cell) good (λ by ask rest front. front_good by ask rest front (keeps by ask rest front))
