-- What a lock phase saw stays, and each cell of a change has a copy at a quorum, over every list of steps.
use Rattle.std.proofs.Common.{◌≡◌, ◌∙◌, ℕ, ◌≤◌, true, false, refl, sym, ap, subst, inl, inr, arith}
use Rattle.fop_types.specs.declared.cells.Cell.{Cell}
use Rattle.fop_types.specs.declared.contents.Row.{Row}
use Rattle.afr_machine.specs.Replicas.{Size, Replicas, count}
use Rattle.afr_machine.specs.Touching.{has_cell}
use Rattle.afr_machine.specs.Changes.{Change, Verdict, is_unsettled}
use Rattle.afr_machine.specs.Phases.{Phase, IsReadyIn}
use Rattle.afr_machine.specs.Transactions.{Stage, cells_of_job}
use Rattle.afr_machine.specs.States.{State, phase_of}
use Rattle.afr_machine.specs.Births.{cells_of_work}
use Rattle.afr_machine.specs.Turns.{IsCopied, MayReach, MayMarkNow, members, cells_locked, rows_granted}
use Rattle.afr_machine.specs.Steps.{Step, Allowed, after, IsReached}
use Rattle.afr_machine.specs.Moves.{IsTaken}
use Rattle.afr_machine.proofs.BrickMoves.{bricks_move}
use Rattle.afr_laws.specs.Grants.{is_unlocking}
use Rattle.afr_laws.specs.Fresh.{is_behind, AsksFor}
use Rattle.afr_laws.specs.Standing.{is_gathering}
use Rattle.afr_laws.proofs.Counts.{count_within}
use Rattle.afr_laws.proofs.Fresh.Known.{phases_are_known}
use Rattle.afr_laws.proofs.Fresh.Phased.{PhasesGo}
use Rattle.afr_laws.proofs.Fresh.Steps.{step_phases}
use Rattle.afr_laws.proofs.LastPhase.Moves.{move_present}
use Rattle.afr_laws.proofs.Overtaken.Steps.{HasOpen, has_open, PhaseFrom, phase_from}
use Rattle.afr_laws.proofs.Overtaken.Steps.PhaseFrom.{Old, Now}
use Rattle.afr_laws.proofs.Sound.{soundness_is_counted}
use Rattle.afr_laws.proofs.Standing.Steps.{rows_stand}
use Rattle.afr_laws.proofs.Work.Known.{works_are_known}
use Rattle.afr_soundness.specs.Replaced.{HasCopy}
use Rattle.afr_soundness.proofs.ChangeMoves.{ChangeMove, change_moves}
use Rattle.afr_soundness.proofs.Deciding.Whose.{decides_exactly}
use Rattle.afr_soundness.proofs.Replaced.Steps.{replaced_have_copies}
use Rattle.afr_soundness.proofs.Unsettled.{becomes_own}
use Rattle.afr_contents.specs.Present.{SeenHaveCopies, having, ChangesArePresent, EveryChangeIsPresent}

module _ (size : Size) (m : State) (r : IsReached size m) (step : Step) (allowed : Allowed size m step) where
  abbrev new : State
  new = after size m step

  goes : PhasesGo m.ended m.phases (after size m step).phases
  goes = step_phases size m step

  copy_stays : (k : ℕ) (cell : Cell) → HasCopy m k cell → HasCopy new k cell
  copy_stays k cell h = move_present (IsTaken m step k) (m.bricks k) (new.bricks k) cell (bricks_move size m step allowed k) h

  pub many_stay : (cell : Cell) → size.quorum ≤ count size.replicas (having m cell) → size.quorum ≤ count size.replicas (having new cell)
  many_stay cell h =
      let more = count_within size.replicas (having m cell) (having (after size m step) cell) (λ k low there. copy_stays k cell there) in
      omega (arith, more, h)

  -- ---- a lock phase that ends now

  module _ (t : ℕ) (may : MayReach size m t) (k : ℕ) (cell : Cell) (o : HasOpen m t k) where
    over : o.grant.cells ≡ cells_locked (m.txns t).stage
    over =
        ((works_are_known size m r t).grants k o.grant o.granted).over
        ∙ sym (subst (λ s. AsksFor s (cells_of_work m.changes (m.txns t) (m.txns t).work)) may.turn (phases_are_known size m r t).asks)
        ∙ sym (ap cells_locked may.turn)

    shown : has_cell (cells_locked (m.txns t).stage) cell ≡ true → (rows_granted ((m.txns t).grants k) cell).present ≡ true → HasCopy m k cell
    shown has there =
        ((rows_stand size m r).handed t k o.grant (record { granted = o.granted; still_open = o.current; holding = ap is_unlocking may.turn }) (ap is_gathering may.turn) cell (ap (λ cs. has_cell cs cell) over ∙ has)).present
        (sym (ap (λ g. (rows_granted g cell).present) o.granted) ∙ there)

  seen_after : SeenHaveCopies m → SeenHaveCopies new
  seen_after was p k cell one low covers reached there = by_phase (phase_from size m step allowed p low) where
    by_phase : PhaseFrom size m new p → HasCopy new k cell
    by_phase (Old before) =
        copy_stays k cell (was p k cell one before (ap (λ cs. has_cell cs cell) (sym (goes.cells p before)) ∙ covers) (ap (λ (f : Replicas). f k) (sym (goes.reached p before)) ∙ reached)
        (ap (λ (f : ℕ → Cell → Row). (f k cell).present) (sym (goes.rows p before)) ∙ there))
    by_phase (Now t may at is bricks) =
        copy_stays k cell (shown t may k cell (has_open m t k (sym (ap (λ (x : Phase). x.reached k) is) ∙ reached))
        (sym (ap (λ (x : Phase). has_cell x.cells cell) is) ∙ covers) (sym (ap (λ (x : Phase). (x.rows k cell).present) is) ∙ there))

  -- ---- a change that is marked now

  module _ (seen : SeenHaveCopies m) (t : ℕ) (h : MayMarkNow size m t) (cell : Cell) (has : has_cell h.cells cell ≡ true) where
    behind : is_behind (m.txns t).stage ≡ true
    behind = copied_behind (m.txns t).stage h.copied where
      copied_behind : (stage : Stage) → IsCopied stage → is_behind stage ≡ true
      copied_behind Stage.Locked c = refl
      copied_behind (Stage.Copying run) c = refl
      copied_behind other c = absurd c

    covers : has_cell (phase_of m t).cells cell ≡ true
    covers = ap (λ cs. has_cell cs cell) ((phases_are_known size m r t).cells behind ∙ ap (cells_of_work m.changes (m.txns t)) h.work_is ∙ ap cells_of_job h.job_is) ∙ has

    one : 1 ≤ (m.txns t).phase
    one = ((decides_exactly size m r).transactions t).one behind

    ready_has : (k : ℕ) → IsReadyIn size (phase_of m t) cell k → HasCopy m k cell
    ready_has k (inl sound) =
        let s = (soundness_is_counted size (phase_of m t) cell k).0 sound in
        seen (m.txns t).phase k cell one (phases_are_known size m r t).low covers s.reached s.present
    ready_has k (inr copied) = (replaced_have_copies size m r).cleared (m.txns t).phase k k cell one (phases_are_known size m r t).low copied.itself

    marked_present : size.quorum ≤ count size.replicas (having m cell)
    marked_present =
        let more = count_within size.replicas (members m t) (having m cell) (λ k low member. ready_has k (h.ready k low member cell has)) in
        let many = h.many in
        omega (arith, more, many)

  changes_after : SeenHaveCopies m → ChangesArePresent size m → ChangesArePresent size new
  changes_after seen was u cell drawn has = many_stay cell (by_move (change_moves size m step allowed u)) where
    old : (c : Change) → new.changes u ≡ c → c.cells ≡ (m.changes u).cells → ((m.changes u).verdict ≡ Verdict.Undrawn → c.verdict ≡ Verdict.Undrawn) → size.quorum ≤ count size.replicas (having m cell)
    old c is cells back = was u cell (λ e. drawn (ap (λ (x : Change). x.verdict) is ∙ back e)) (ap (λ cs. has_cell cs cell) (sym (ap (λ (x : Change). x.cells) is ∙ cells)) ∙ has)

    by_move : ChangeMove size m step u (new.changes u) → size.quorum ≤ count size.replicas (having m cell)
    by_move (ChangeMove.Same is) = old (m.changes u) is refl (λ e. e)
    by_move (ChangeMove.Marks t step_is h at is) = marked_present seen t h cell (sym (ap (λ (x : Change). has_cell x.cells cell) is) ∙ has)
    by_move (ChangeMove.Unsettles t step_is h at is) = old _ is refl (λ e. absurd (let no : Verdict.Undrawn ≡ Verdict.Drawn = sym e ∙ ap (λ n. (m.changes n).verdict) at ∙ (becomes_own size m r step allowed t h).1.1 in cc))
    by_move (ChangeMove.Applies k by v op answer step_is handed stage is) = old _ is refl (λ e. e)
    by_move (ChangeMove.Decides t step_is h at unsettled is) = old _ is refl (λ e. absurd (let no : false ≡ true = sym (ap is_unsettled e) ∙ unsettled in cc))

pub keeps_present : EveryChangeIsPresent
keeps_present size m IsReached.Start = record {
  seen = λ p k cell one low. absurd (omega (arith, one, low));
  changes = λ u cell drawn. absurd (drawn refl);
}
keeps_present size m (IsReached.Further before step reached allowed) =
    let was = keeps_present size before reached in
    record { seen = seen_after size before reached step allowed was.seen; changes = changes_after size before reached step allowed was.seen was.changes }
