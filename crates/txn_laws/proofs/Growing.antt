-- Who is out stays out, with the same mark.
use Rattle.std.proofs.Common.{◌≡◌, ◌∙◌, ℕ, zero, suc, ◌+◌, ◌-◌, Bool, false, List, [], ◌∷◌, Option, Some, None, is_some, sym, ap}
use Rattle.std.specs.Prelude.{slice_index, slice_index_or, slice_set}
use Rattle.std.proofs.lemmas.Bool.{cond_both, true≢false}
use Rattle.fop_types.specs.declared.contents.Mask.{Mask}
use Rattle.fop_types.specs.declared.copy_jobs.Out.{Out}
use Rattle.afr_phases.specs.declared.locking.LockStep.{LockStep}
use Rattle.afr_phases.specs.declared.locking.LockStep.TheVariants as step
use Rattle.afr_phases.specs.declared.locks.Locks.{Locks}
use Rattle.afr_phases.specs.declared.outs.Outs.{Outs}
use Rattle.afr_phases.specs.Flags.{names}
use Rattle.afr_phases.specs.Locking.{next_to_lock, kept_only, ended_with, ended, asked_or_ended, next_lock}
use Rattle.afr_phases.specs.Locks.{standing}
use Rattle.afr_phases.specs.Outs.{is_out, is_short, left}
use Rattle.afr_phases.proofs.Short.{kept_keeps}
use Rattle.txn_laws.specs.Lists.{AreOutStill}

-- a place that was empty is filled
filled : (xs : List (Option Out)) (i k : ℕ) (x out : Out) → is_some (slice_index_or xs i None) ≡ false → slice_index_or xs k None ≡ Some out → slice_index_or (slice_set xs i (Some x)) k None ≡ Some out
filled [] i k x out none h = h
filled (y ∷ ys) zero zero x out none h = absurd (true≢false (sym (ap is_some h) ∙ none))
filled (y ∷ ys) zero (suc k) x out none h = h
filled (y ∷ ys) (suc i) zero x out none h = h
filled (y ∷ ys) (suc i) (suc k) x out none h = filled ys i k x out none h

pub left_grows : (outs : Outs) (i mark : ℕ) (fault : Bool) → AreOutStill outs (left outs i fault mark)
left_grows outs i mark fault k out h =
    cond_both (is_out outs i) outs (record { at = slice_set outs.at i (Some (record { replica = i; fault = fault; mark = mark })) }) (λ (o : Outs). slice_index_or o.at k None ≡ Some out) (λ e. h)
    (λ e. filled outs.at i k (record { replica = i; fault = fault; mark = mark }) out e h)

module _ (n q : ℕ) (live : Mask) (last : List ℕ) where
  next_grows : (count k : ℕ) (outs : Outs) → AreOutStill outs (next_to_lock count outs n q k live last).0
  next_grows zero k outs i out h = h
  next_grows (suc count) k outs i out h =
      cond_both (is_short outs n q) _ _ (λ (t : Outs × Option ℕ). slice_index_or t.0.at i None ≡ Some out) (λ e. h)
      (λ e. cond_both (is_out outs k) _ _ (λ (t : Outs × Option ℕ). slice_index_or t.0.at i None ≡ Some out) (λ o. next_grows count (k + 1) outs i out h)
      (λ o. cond_both (names live k) _ _ (λ (t : Outs × Option ℕ). slice_index_or t.0.at i None ≡ Some out) (λ l. h)
      (λ l. next_grows count (k + 1) (left outs k false (slice_index last k)) i out (left_grows outs k (slice_index last k) false i out h))))

  end_grows : (outs : Outs) (locks : Locks) → AreOutStill outs (ended outs locks n q live last).0
  end_grows outs locks i out h =
      cond_both (is_short outs n q) (outs, step.Short) (ended_with (kept_only outs (standing locks live last) n last) n q) (λ (t : Outs × LockStep). slice_index_or t.0.at i None ≡ Some out) (λ e. h)
      (λ e. kept_keeps outs (standing locks live last) n last i out h)

  asked_grows : (before : Outs) (locks : Locks) (t : Outs × Option ℕ) → AreOutStill before t.0 → AreOutStill before (asked_or_ended t locks n q live last).0
  asked_grows before locks (outs, Some k) f = f
  asked_grows before locks (outs, None) f = λ i out h. end_grows outs locks i out (f i out h)

  pub step_grows : (outs : Outs) (locks : Locks) (from : ℕ) → AreOutStill outs (next_lock outs locks n q from live last).0
  step_grows outs locks from = asked_grows outs locks (next_to_lock (n - from) outs n q from live last) (next_grows (n - from) from outs)
