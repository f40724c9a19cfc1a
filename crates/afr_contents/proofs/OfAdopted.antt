-- What is adopted is never taken away, and an unsettled change is of cells whose birth is adopted, over every list of steps.
use Rattle.std.proofs.Common.{◌≡◌, ◌∙◌, true, false, sym, ap, Option, Some, None}
use Rattle.std.specs.Prelude.{List, is_some}
use Rattle.fop_types.specs.StoreOps.{Contents, births, born_on}
use Rattle.fop_types.specs.declared.cells.Cell.{Cell}
use Rattle.fop_types.specs.declared.contents.Content.{Content}
use Rattle.afr_machine.specs.Replicas.{Size}
use Rattle.afr_machine.specs.Touching.{has_cell}
use Rattle.afr_machine.specs.States.{State}
use Rattle.afr_machine.specs.Steps.{Step, Allowed, after, IsReached}
use Rattle.afr_laws.proofs.Copies.Contents.{content_stays}
use Rattle.afr_soundness.proofs.ChangeMoves.{cells_stay}
use Rattle.afr_soundness.proofs.Unsettled.{UnsettledFrom, unsettled_from, drawn_from}
use Rattle.afr_contents.specs.Adopted.{ChangesOfAdopted, EveryChangeIsOfAdopted}
use Rattle.afr_contents.proofs.Ops.{after_births_on, contents_on, unborn}
use Rattle.afr_contents.proofs.Contents.{ContentsMove, contents_move}

-- births leave a content that is there
pub births_leave : (cell : Cell) (bs : List (Cell × Content)) (x : Option Content) → is_some x ≡ true → is_some (born_on cell x bs) ≡ true
births_leave cell bs (Some content) h = ap is_some (unborn cell bs content)
births_leave cell bs None h = absurd (let no : false ≡ true = h in cc)

module _ (size : Size) (m : State) (step : Step) (allowed : Allowed size m step) where
  abbrev new : State
  new = after size m step

  pub adopted_stays : (cell : Cell) → is_some (m.adopted cell) ≡ true → is_some (new.adopted cell) ≡ true
  adopted_stays cell h = by_case (contents_move size m step allowed) where
    by_case : ContentsMove size m step new → is_some (new.adopted cell) ≡ true
    by_case (ContentsMove.Same a b) = ap (λ (f : Contents). is_some (f cell)) a ∙ h
    by_case (ContentsMove.Unsettles op first a b) = ap (λ (f : Contents). is_some (f cell)) a ∙ h
    by_case (ContentsMove.Bears op first a b) =
        ap (λ (f : Contents). is_some (f cell)) a ∙ ap is_some (after_births_on (births op) m.adopted cell) ∙ births_leave cell (births op) (m.adopted cell) h
    by_case (ContentsMove.Adopts t step_is may unsettled adopts a b) =
        ap (λ (f : Contents). is_some (f cell)) a ∙ ap is_some (contents_on m.adopted (m.changes may.change).op cell) ∙ content_stays m.adopted (m.changes may.change).op cell h

  module _ (r : IsReached size m) (was : ChangesOfAdopted m) where
    of_adopted_after : ChangesOfAdopted new
    of_adopted_after u cell unsettled touches = adopted_stays cell (by_case from) where
      from : UnsettledFrom size m r step allowed u
      from = unsettled_from size m r step allowed u unsettled

      touched : has_cell (m.changes u).cells cell ≡ true
      touched = sym (ap (λ cs. has_cell cs cell) (cells_stay size m step allowed u (drawn_from size m r step allowed u from))) ∙ touches

      by_case : UnsettledFrom size m r step allowed u → is_some (m.adopted cell) ≡ true
      by_case (UnsettledFrom.Was h) = was u cell h touched
      by_case (UnsettledFrom.Becomes t step_is h at) = h.present cell (sym (ap (λ n. has_cell (m.changes n).cells cell) at) ∙ touched)

pub changes_of_adopted : EveryChangeIsOfAdopted
changes_of_adopted size m IsReached.Start = λ u cell unsettled touches. absurd (let no : false ≡ true = unsettled in cc)
changes_of_adopted size m (IsReached.Further old step reached allowed) = of_adopted_after size old step allowed reached (changes_of_adopted size old reached)
