-- A cell without adopted changes has the content that it was born with, over every list of steps.
use Rattle.std.proofs.Common.{◌≡◌, ◌∙◌, ℕ, true, false, refl, sym, ap, subst, Option, Some, None, ◌⊎◌, inl, inr}
use Rattle.std.specs.Prelude.{List, [], ◌∷◌}
use Rattle.fop_types.specs.StoreOps.{Contents, needs, births, born_on}
use Rattle.fop_types.specs.declared.cells.Cell.{Cell}
use Rattle.fop_types.specs.declared.contents.Content.{Content}
use Rattle.fop_types.specs.declared.store_ops.StoreOp.{StoreOp}
use Rattle.afr_machine.specs.Replicas.{Size}
use Rattle.afr_machine.specs.Touching.{has_cell}
use Rattle.afr_machine.specs.States.{State}
use Rattle.afr_machine.specs.Steps.{Step, Allowed, after, IsReached}
use Rattle.afr_laws.specs.OneBirth.{AreBorn}
use Rattle.afr_laws.proofs.Bools.{is_or_not}
use Rattle.afr_laws.proofs.Births.Born.{births_born}
use Rattle.afr_laws.proofs.Births.Steps.{every_cell_is_born_once}
use Rattle.afr_laws.proofs.Copies.Asks.{sent_is}
use Rattle.afr_laws.proofs.OwnChanges.Steps.{changes_are_own}
use Rattle.afr_contents.specs.Adopted.{adopted_on, first_of, AdoptedAsBorn, EveryAdoptedIsAsBorn}
use Rattle.afr_contents.proofs.Ops.{after_births_on, contents_on, left_alone, born_settled, unborn}
use Rattle.afr_contents.proofs.Contents.{ContentsMove, contents_move}
use Rattle.afr_contents.proofs.Settled.{Adopting, on_stays, on_adds}

module _ (size : Size) (m : State) (r : IsReached size m) (step : Step) (allowed : Allowed size m step) (was : AdoptedAsBorn m) (cell : Cell) (content : Content) where
  abbrev new : State
  new = after size m step

  module _ (empty : adopted_on new cell ≡ []) (is : new.adopted cell ≡ Some content) where
    none : (u : ℕ) → Adopting size m r step allowed cell u → ⊥
    none u a = absurd (let e : u ∷ adopted_on m cell ≡ [] = sym (on_adds size m r step allowed cell u a) ∙ empty in cc)

    empty_then : adopted_on m cell ≡ []
    empty_then = sym (on_stays size m r step allowed cell none) ∙ empty

    -- where it was adopted already
    old : m.adopted cell ≡ Some content → new.born cell ≡ Some content
    old h = (every_cell_is_born_once size m r).stays step allowed cell content (was cell content empty_then h)

    -- births that are as the first ones
    born : (bs : List (Cell × Content)) → AreBorn new.born bs → (x : Option Content) → m.adopted cell ≡ x → born_on cell x bs ≡ Some content → new.born cell ≡ Some content
    born bs all (Some there) x_is h = old (x_is ∙ sym (unborn cell bs there) ∙ h)
    born bs all None x_is h = sym (born_settled new.born cell bs None all) ∙ ap (λ x. first_of x (new.born cell)) h

    by_case : ContentsMove size m step new → new.born cell ≡ Some content
    by_case (ContentsMove.Same a b) = old (sym (ap (λ (f : Contents). f cell) a) ∙ is)
    by_case (ContentsMove.Unsettles op first a b) = old (sym (ap (λ (f : Contents). f cell) a) ∙ is)
    by_case (ContentsMove.Bears op first a b) =
        born (births op) (subst (λ (f : Contents). AreBorn f (births op)) (sym b) (births_born m.born op first)) (m.adopted cell) refl
        (sym (after_births_on (births op) m.adopted cell) ∙ sym (ap (λ (f : Contents). f cell) a) ∙ is)
    by_case (ContentsMove.Adopts t step_is may unsettled adopts a b) =
        born (births op) (subst (λ (f : Contents). AreBorn f (births op)) (sym b) ((every_cell_is_born_once size m r).one.changes may.change (sent_is (m.changes may.change).verdict unsettled))) (m.adopted cell) refl
        (sym (contents_on m.adopted op cell ∙ left_alone m.adopted op cell outside) ∙ sym (ap (λ (f : Contents). f cell) a) ∙ is)
      where
        op : StoreOp
        op = (m.changes may.change).op

        outside : has_cell (needs (m.changes may.change).op) cell ≡ false
        outside = ap (λ cs. has_cell cs cell) (sym ((changes_are_own size m r).fit.needs_are may.change)) ∙ by_cell (is_or_not (has_cell (m.changes may.change).cells cell)) where
          by_cell : (has_cell (m.changes may.change).cells cell ≡ true) ⊎ (has_cell (m.changes may.change).cells cell ≡ false) → has_cell (m.changes may.change).cells cell ≡ false
          by_cell (inl there) = absurd (none may.change (record { decision = record { txn = t; step_is = step_is; may = may; at = refl; unsettled = unsettled }; adopts = adopts; touches = there }))
          by_cell (inr other) = other

    pub as_born_after : new.born cell ≡ Some content
    as_born_after = by_case (contents_move size m step allowed)

pub adopted_as_born : EveryAdoptedIsAsBorn
adopted_as_born size m IsReached.Start = λ cell content empty is. is
adopted_as_born size m (IsReached.Further before step reached allowed) = λ cell content empty is. as_born_after size before reached step allowed (adopted_as_born size before reached) cell content empty is
