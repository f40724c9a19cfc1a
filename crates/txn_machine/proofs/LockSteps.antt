-- A lock is asked of a replica that is used, and that has an open connection.
use Rattle.std.proofs.Common.{◌≡◌, ℕ, zero, suc, ◌+◌, ◌-◌, ◌≤◌, Bool, true, false, ◌&&◌, not, nat_lt, List, Option, Some, None, slice_index, ap, arith, if◌then◌else◌}
use Rattle.std.proofs.lemmas.Bool.{cond_both, and_from, lt-ltb}
use Rattle.fop_types.specs.declared.contents.Mask.{Mask}
use Rattle.afr_phases.specs.declared.locking.LockStep.{LockStep}
use Rattle.afr_phases.specs.declared.locking.LockStep.TheVariants as step
use Rattle.afr_phases.specs.declared.locks.Locks.{Locks}
use Rattle.afr_phases.specs.declared.outs.Outs.{Outs}
use Rattle.afr_phases.specs.Flags.{flag, names}
use Rattle.afr_phases.specs.Locking.{next_to_lock, ended, ended_with, kept_only, asked_or_ended, next_lock}
use Rattle.afr_phases.specs.Locks.{standing}
use Rattle.afr_phases.specs.Outs.{is_out, is_short, left, used}
use Rattle.afr_phases.proofs.Truths.{flags_have}

-- who is asked is used and connected
IsLive : ℕ → Mask → Outs × Option ℕ → Type 0
IsLive n live (outs, Some k) = (flag (used outs n) k ≡ true) × (names live k ≡ true)
IsLive n live (outs, None) = Unit {0}

abbrev pub AsksLive : ℕ → Mask → Outs × LockStep → Type 0
AsksLive n live (outs, step.Ask k) = (flag (used outs n) k ≡ true) × (names live k ≡ true)
AsksLive n live (outs, step.Short) = Unit {0}
AsksLive n live (outs, step.Reached) = Unit {0}

module _ (n q : ℕ) (live : Mask) (last : List ℕ) (few : n ≤ 5) where
  asked_live : (count k : ℕ) (outs : Outs) → count ≤ n - k → IsLive n live (next_to_lock count outs n q k live last)
  unfolding IsLive
  asked_live zero k outs left_over = tt
  asked_live (suc count) k outs left_over =
      cond_both (is_short outs n q) _ _ (IsLive n live) (λ e. tt)
      (λ e. cond_both (is_out outs k) _ _ (IsLive n live) (λ o. asked_live count (k + 1) outs (omega arith))
      (λ o. cond_both (names live k) _ _ (IsLive n live)
      (λ l. (flags_have (λ j. nat_lt j n && not (is_out outs j)) k (omega arith) (and_from (nat_lt k n) (not (is_out outs k)) (lt-ltb k n (omega arith)) (ap not o)), l))
      (λ l. asked_live count (k + 1) (left outs k false (slice_index last k)) (omega arith))))

  end_live : (outs : Outs) → AsksLive n live (ended_with outs n q)
  end_live outs = by (is_short outs n q) where
    by : (b : Bool) → AsksLive n live (outs, if b then step.Short else step.Reached)
    by true = tt
    by false = tt

  ended_live : (outs : Outs) (locks : Locks) → AsksLive n live (ended outs locks n q live last)
  ended_live outs locks = cond_both (is_short outs n q) _ _ (AsksLive n live) (λ e. tt) (λ e. end_live (kept_only outs (standing locks live last) n last))

  by_live : (locks : Locks) (t : Outs × Option ℕ) → IsLive n live t → AsksLive n live (asked_or_ended t locks n q live last)
  unfolding IsLive
  by_live locks (outs, Some k) is = is
  by_live locks (outs, None) is = ended_live outs locks

  pub asks_live : (outs : Outs) (locks : Locks) (from : ℕ) → AsksLive n live (next_lock outs locks n q from live last)
  asks_live outs locks from = by_live locks (next_to_lock (n - from) outs n q from live last) (asked_live (n - from) from outs (omega arith))
