-- The steps of a lock phase: whom it asks, who is left at its end, and whose locks are released.
use Rattle.std.proofs.Common.{◌≡◌, ◌∙◌, ℕ, zero, suc, ◌+◌, ◌-◌, ◌<◌, ◌≤◌, ◌⊎◌, inl, inr, Bool, true, false, ◌&&◌, not, nat_lt, List, [], ◌∷◌, map, Option, Some, None, is_some, refl, sym, ap, arith, if◌then◌else◌, slice_set, slice_index, slice_index_or}
use Rattle.std.specs.Prelude.{◌≢◌}
use Rattle.std.specs.List.{count_by}
use Rattle.std.proofs.lemmas.Bool.{cond_both, and_from, true≢false, cases_eq, ltb-false, lt-ltb}
use Rattle.std.proofs.lemmas.List.{get_or-set_other}
use Rattle.std.proofs.lemmas.List.Recursion.{is_count_by}
use Rattle.fop_types.specs.declared.contents.Mask.{Mask}
use Rattle.fop_types.specs.declared.copy_jobs.Out.{Out}
use Rattle.afr_phases.specs.declared.locking.LockStep.{LockStep}
use Rattle.afr_phases.specs.declared.locking.LockStep.TheVariants as step
use Rattle.afr_phases.specs.declared.locks.Locks.{Locks}
use Rattle.afr_phases.specs.declared.outs.Outs.{Outs}
use Rattle.afr_phases.specs.Asked.{are_granted_within}
use Rattle.afr_phases.specs.Flags.{flag, names}
use Rattle.afr_phases.specs.Locking.{next_to_lock, next_lock, asked_or_ended, ended, ended_with, kept_only}
use Rattle.afr_phases.specs.Locks.{no_locks, granted, stands, standing, is_open}
use Rattle.afr_phases.specs.Outs.{is_out, is_short, left, out_count, used}
use Rattle.afr_phases.proofs.Asked.{within_at, within_has}
use Rattle.afr_phases.proofs.Truths.{flags_have}

-- ---- who is left

places : List (Option Out) → ℕ
places [] = 0
places (x ∷ xs) = if is_some x then 1 + places xs else places xs

room : (n : ℕ) (xs : List (Option Out)) → places xs < n → (k : ℕ) × ((k < n) × (is_some (slice_index_or xs k None) ≡ false))
unfolding places
room zero xs h = absurd (omega arith)
room (suc n) [] h = (0, (omega arith, refl))
room (suc n) (None ∷ xs) h = (0, (omega arith, refl))
room (suc n) (Some x ∷ xs) h = let r = room n xs (omega arith) in (suc r.0, (omega (arith, r.1.0), r.1.1))

count_is : (xs : List (Option Out)) → places xs ≡ count_by is_some xs
unfolding places
count_is = is_count_by places is_some refl (λ x xs. refl)

-- where not too many are out, somebody is used
pub some_used : (outs : Outs) (n q : ℕ) → 1 ≤ q → n ≤ 5 → is_short outs n q ≡ false → (k : ℕ) × (flag (used outs n) k ≡ true)
some_used outs n q least few enough =
    let most : out_count outs + q ≤ n = ltb-false n (out_count outs + q) enough in
    let r = room n outs.at (omega (arith, count_is outs.at)) in
    let low : r.0 < 5 = omega (arith, r.1.0) in
    (r.0, flags_have (λ j. nat_lt j n && not (is_out outs j)) r.0 low (and_from (nat_lt r.0 n) (not (is_out outs r.0)) (lt-ltb r.0 n r.1.0) (ap not r.1.1)))

-- ---- the next step

-- a replica that is asked is one of the set
IsLow : ℕ → Outs × Option ℕ → Type 0
IsLow n (outs, Some k) = k < n
IsLow n (outs, None) = Unit {0}

-- at the end not too many are out
abbrev pub IsStepOf : ℕ → ℕ → Outs × LockStep → Type 0
IsStepOf n q (outs, step.Ask k) = k < n
IsStepOf n q (outs, step.Short) = Unit {0}
IsStepOf n q (outs, step.Reached) = is_short outs n q ≡ false

module _ (n q : ℕ) (live : Mask) (last : List ℕ) where
  asked_low : (count k : ℕ) (outs : Outs) → count ≤ n - k → IsLow n (next_to_lock count outs n q k live last)
  unfolding IsLow
  asked_low zero k outs few = tt
  asked_low (suc count) k outs few =
      cond_both (is_short outs n q) _ _ (IsLow n) (λ e. tt)
      (λ e. cond_both (is_out outs k) _ _ (IsLow n) (λ o. asked_low count (k + 1) outs (omega arith))
      (λ o. cond_both (names live k) _ _ (IsLow n) (λ l. omega arith) (λ l. asked_low count (k + 1) (left outs k false (slice_index last k)) (omega arith))))

  with_end : (outs : Outs) → IsStepOf n q (ended_with outs n q)
  with_end outs = by (is_short outs n q) refl where
    by : (b : Bool) → is_short outs n q ≡ b → IsStepOf n q (outs, if b then step.Short else step.Reached)
    by true e = tt
    by false e = e

  at_end : (outs : Outs) (locks : Locks) → IsStepOf n q (ended outs locks n q live last)
  at_end outs locks = cond_both (is_short outs n q) _ _ (IsStepOf n q) (λ e. tt) (λ e. with_end (kept_only outs (standing locks live last) n last))

  by_asked : (locks : Locks) (t : Outs × Option ℕ) → IsLow n t → IsStepOf n q (asked_or_ended t locks n q live last)
  unfolding IsLow
  by_asked locks (outs, Some k) low = low
  by_asked locks (outs, None) low = at_end outs locks

  pub step_of : (outs : Outs) (locks : Locks) (from : ℕ) → IsStepOf n q (next_lock outs locks n q from live last)
  step_of outs locks from = by_asked locks (next_to_lock (n - from) outs n q from live last) (asked_low (n - from) from outs (omega arith))

-- ---- locks

flag_is : (xs : List (Option ℕ)) (k : ℕ) → flag (map is_some xs) k ≡ is_some (slice_index_or xs k None)
flag_is [] k = refl
flag_is (x ∷ xs) zero = refl
flag_is (x ∷ xs) (suc k) = flag_is xs k

-- only replicas of the set grant locks
pub granted_within : (n k connection : ℕ) (locks : Locks) → are_granted_within n locks ≡ true → k < n → are_granted_within n (granted locks k connection) ≡ true
granted_within n k connection locks h low = within_has n (map is_some (granted locks k connection).at) (λ j f. by j (cases_eq j k) (sym (flag_is (granted locks k connection).at j) ∙ f)) where
  by : (j : ℕ) → (j ≡ k) ⊎ (j ≢ k) → is_some (slice_index_or (slice_set locks.at k (Some connection)) j None) ≡ true → j < n
  by j (inl same) f = omega arith
  by j (inr apart) f =
      within_at n j (map is_some locks.at) h (flag_is locks.at j ∙ ap (λ (x : Option ℕ). is_some x) (sym (get_or-set_other locks.at k j (Some connection) None apart)) ∙ f)

pub none_granted : (n : ℕ) → are_granted_within n no_locks ≡ true
none_granted n = refl

pub stands_low : (n k : ℕ) (locks : Locks) (live : Mask) (last : List ℕ) → are_granted_within n locks ≡ true → stands locks k live last ≡ true → k < n
stands_low n k locks live last h holds = by (slice_index_or locks.at k None) refl holds where
  by : (o : Option ℕ) → slice_index_or locks.at k None ≡ o → is_open o k live last ≡ true → k < n
  by None e t = absurd (true≢false (sym t))
  by (Some connection) e t = within_at n k (map is_some locks.at) h (flag_is locks.at k ∙ ap (λ (x : Option ℕ). is_some x) e)
