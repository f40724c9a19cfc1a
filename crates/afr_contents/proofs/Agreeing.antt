-- Copies agree, and with that all that a guarded set keeps.
use Rattle.std.proofs.Common.{◌∙◌, sym, ap, inl, inr, ◌⊎◌, arith, Option}
use Rattle.std.specs.Prelude.{not}
use Rattle.fop_types.specs.declared.cells.Cell.{Cell}
use Rattle.afr_machine.specs.Replicas.{Size}
use Rattle.afr_machine.specs.Copies.{Copy, changes_of}
use Rattle.afr_machine.specs.States.{State}
use Rattle.afr_machine.proofs.BrickMoves.{bricks_move}
use Rattle.afr_laws.specs.Numbers.{applied}
use Rattle.afr_laws.specs.Rows.{accuses_at}
use Rattle.afr_laws.proofs.Bools.{both_left}
use Rattle.afr_laws.proofs.Counts.{count_within}
use Rattle.afr_decisions.proofs.Guarded.{is_guarded}
use Rattle.afr_contents.specs.Staying.{pardons_coming, accusers_staying}
use Rattle.afr_contents.specs.Good.{IsGood, IsGoodOrAccused, CopiesGoodOrAccused}
use Rattle.afr_contents.specs.Good.IsGood.{Absent, Settled, Ahead}
use Rattle.afr_contents.specs.Guarded.{AgreesOn, accusers, IsConvicted, CopiesAgree, EverySetIsGuarded}
use Rattle.afr_contents.proofs.Coming.{every_copy_is_good}

good_agrees : (m : State) (cell : Cell) (copy : Option Copy) → IsGood m cell copy → AgreesOn m cell (changes_of copy)
good_agrees m cell copy (Absent e empty) = AgreesOn.Exactly (ap changes_of e ∙ sym empty)
good_agrees m cell copy (Settled held e changes content) = AgreesOn.Exactly (ap changes_of e ∙ changes)
good_agrees m cell copy (Ahead held u e a) = AgreesOn.WithUnsettled u a.unsettled a.touches (ap changes_of e ∙ a.changes)

copies_agree : (size : Size) (m : State) → CopiesGoodOrAccused size m → CopiesAgree size m
copies_agree size m good i cell few = by_case (good i cell few) where
  by_case : IsGoodOrAccused size m i cell → AgreesOn m cell (applied m i cell) ⊎ IsConvicted size m cell i
  by_case (inl is) = inl (good_agrees m cell ((m.bricks i).store cell).copy is)
  by_case (inr many) =
      let more = count_within size.replicas (accusers_staying m cell i) (accusers m cell i) (λ k low h. both_left (accuses_at (m.bricks k).store cell i) (not (pardons_coming (m.bricks k).line cell i)) h) in
      inr (inr (inr (omega (arith, more, many))))

pub set_is_guarded : EverySetIsGuarded
set_is_guarded size m is r = record {
  copies_agree = copies_agree size m (every_copy_is_good size m is r);
  copies_good = every_copy_is_good size m is r;
  lock_after_earlier = λ step allowed k. bricks_move size m step allowed k;
  kept = is_guarded size m is r;
}
