-- Who is used after a step was used before it, and who went out in a copy is not used any more.
use Rattle.std.proofs.Common.{◌≡◌, ◌∙◌, ℕ, zero, suc, ◌+◌, ◌-◌, ◌<◌, inl, inr, Bool, true, false, ◌&&◌, not, nat_lt, List, [], ◌∷◌, Option, Some, None, refl, sym, ap, subst, arith}
use Rattle.std.specs.Prelude.{length, slice_index}
use Rattle.std.proofs.lemmas.Bool.{cond_both, and_right, true≢false}
use Rattle.fop_types.specs.declared.contents.Mask.{Mask}
use Rattle.fop_types.specs.declared.copy_jobs.Out.{Out}
use Rattle.afr_phases.specs.declared.locking.LockStep.{LockStep}
use Rattle.afr_phases.specs.declared.locks.Locks.{Locks}
use Rattle.afr_phases.specs.declared.outs.Outs.{Outs}
use Rattle.afr_phases.specs.Flags.{flag, names}
use Rattle.afr_phases.specs.Locking.{next_to_lock, lost, kept_only, without_lost, ended, asked_or_ended, next_lock}
use Rattle.afr_phases.specs.Locks.{standing, keeping}
use Rattle.afr_phases.specs.Outs.{is_out, is_short, left, used}
use Rattle.afr_phases.proofs.Stays.{used_left}
use Rattle.afr_phases.proofs.Tracked.{left_places, left_same, used_is}
use Rattle.afr_transaction.specs.Copies.{with_out, with_outs}
use Rattle.txn_laws.specs.Rounds.{IsOutIn}

module _ (n : ℕ) where
  -- who is used after these was used before
  abbrev pub IsSince : Outs → Outs → Type 0
  IsSince before after = (j : ℕ) → flag (used after n) j ≡ true → flag (used before n) j ≡ true

  module _ (live : Mask) (last : List ℕ) where
    next_since : (count : ℕ) (outs : Outs) (q k : ℕ) → IsSince outs (next_to_lock count outs n q k live last).0
    next_since zero outs q k = λ j h. h
    next_since (suc count) outs q k =
        cond_both (is_short outs n q) _ _ (λ (t : Outs × Option ℕ). IsSince outs t.0) (λ s j h. h)
        (λ s. cond_both (is_out outs k) _ _ (λ (t : Outs × Option ℕ). IsSince outs t.0) (λ o. next_since count outs q (k + 1))
        (λ o. cond_both (names live k) _ _ (λ (t : Outs × Option ℕ). IsSince outs t.0) (λ l j h. h)
        (λ l j h. used_left n outs k (slice_index last k) false j (next_since count (left outs k false (slice_index last k)) q (k + 1) j h))))

    lost_since : (outs : Outs) (is_lost : Bool) (k : ℕ) → IsSince outs (lost outs is_lost k last)
    lost_since outs true k = used_left n outs k (slice_index last k) false
    lost_since outs false k = λ j h. h

    kept_since : (outs : Outs) (kept : List Bool) → IsSince outs (kept_only outs kept n last)
    kept_since outs kept j h =
        let a = lost outs (nat_lt 0 n && not (flag kept 0)) 0 last in
        let b = lost a (nat_lt 1 n && not (flag kept 1)) 1 last in
        let c = lost b (nat_lt 2 n && not (flag kept 2)) 2 last in
        let d = lost c (nat_lt 3 n && not (flag kept 3)) 3 last in
        lost_since outs (nat_lt 0 n && not (flag kept 0)) 0 j
        (lost_since a (nat_lt 1 n && not (flag kept 1)) 1 j
        (lost_since b (nat_lt 2 n && not (flag kept 2)) 2 j
        (lost_since c (nat_lt 3 n && not (flag kept 3)) 3 j
        (lost_since d (nat_lt 4 n && not (flag kept 4)) 4 j h))))

    module _ (locks : Locks) where
      pub noted_since : (outs : Outs) → IsSince outs (without_lost outs locks n live last)
      unfolding without_lost
      noted_since outs = kept_since outs (keeping locks live last)

      ended_since : (outs : Outs) (q : ℕ) → IsSince outs (ended outs locks n q live last).0
      ended_since outs q =
          cond_both (is_short outs n q) _ _ (λ (t : Outs × LockStep). IsSince outs t.0) (λ s j h. h) (λ s. kept_since outs (standing locks live last))

      asked_since : (outs : Outs) (q : ℕ) (t : Outs × Option ℕ) → IsSince outs t.0 → IsSince outs (asked_or_ended t locks n q live last).0
      asked_since outs q (o, Some k) since = since
      asked_since outs q (o, None) since = λ j h. since j (ended_since o q j h)

      pub step_since : (outs : Outs) (q from : ℕ) → IsSince outs (next_lock outs locks n q from live last).0
      step_since outs q from = asked_since outs q (next_to_lock (n - from) outs n q from live last) (next_since (n - from) outs q from)

  -- ---- a copy

  out_since : (outs : Outs) (out : Out) → IsSince outs (with_out n outs out)
  out_since outs out =
      cond_both (nat_lt out.replica n) (left outs out.replica out.fault out.mark) outs (IsSince outs) (λ e. used_left n outs out.replica out.mark out.fault) (λ e j h. h)

  pub outs_since : (outs : Outs) (list : List Out) → IsSince outs (with_outs n outs list)
  outs_since outs [] = λ j h. h
  outs_since outs (out ∷ list) = λ j h. out_since outs out j (outs_since (with_out n outs out) list j h)

  out_places : (outs : Outs) (out : Out) → length outs.at ≡ 5 → length (with_out n outs out).at ≡ 5
  out_places outs out five =
      cond_both (nat_lt out.replica n) (left outs out.replica out.fault out.mark) outs (λ (o : Outs). length o.at ≡ 5) (λ e. left_places outs out.replica out.mark out.fault five) (λ e. five)

  not_after : (before after : Outs) (k : ℕ) → IsSince before after → flag (used before n) k ≡ false → flag (used after n) k ≡ false
  not_after before after k since off = by (flag (used after n) k) refl where
    by : (b : Bool) → flag (used after n) k ≡ b → b ≡ false
    by true e = absurd (true≢false (sym (since k e) ∙ off))
    by false e = refl

  left_off : (outs : Outs) (k mark : ℕ) (fault : Bool) → k < 5 → length outs.at ≡ 5 → flag (used (left outs k fault mark) n) k ≡ false
  left_off outs k mark fault low five =
      used_is (left outs k fault mark) n k low
      ∙ ap (λ (b : Bool). nat_lt k n && not b) (left_same outs k mark fault (omega (arith, five))) ∙ and_right (nat_lt k n) (not true) refl

  gone_off : (outs : Outs) (out : Out) (k : ℕ) → k < 5 → length outs.at ≡ 5 → nat_lt k n ≡ true → out.replica ≡ k → flag (used (with_out n outs out) n) k ≡ false
  gone_off outs out k low five within same =
      cond_both (nat_lt out.replica n) (left outs out.replica out.fault out.mark) outs (λ (o : Outs). flag (used o n) k ≡ false)
      (λ e. subst (λ (i : ℕ). flag (used (left outs out.replica out.fault out.mark) n) i ≡ false) same (left_off outs out.replica out.mark out.fault (subst (λ (i : ℕ). i < 5) (sym same) low) five))
      (λ e. absurd (true≢false (sym (subst (λ (i : ℕ). nat_lt i n ≡ true) (sym same) within) ∙ e)))

  -- who went out in a copy is not used after it
  pub off_after : (outs : Outs) (list : List Out) (k : ℕ) → k < 5 → length outs.at ≡ 5 → nat_lt k n ≡ true → IsOutIn k list → flag (used (with_outs n outs list) n) k ≡ false
  off_after outs [] k low five within h = absurd h
  off_after outs (out ∷ list) k low five within (inl same) =
      not_after (with_out n outs out) (with_outs n (with_out n outs out) list) k (outs_since (with_out n outs out) list) (gone_off outs out k low five within same)
  off_after outs (out ∷ list) k low five within (inr later) =
      off_after (with_out n outs out) list k low (out_places outs out five) within later
