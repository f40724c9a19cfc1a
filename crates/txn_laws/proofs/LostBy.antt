-- Who is out after a lock phase or a release, and was not before, has no open connection, or has lost its lock with its connection.
use Rattle.std.proofs.Common.{◌≡◌, ◌∙◌, ℕ, zero, suc, ◌+◌, ◌-◌, ◌<◌, ◌≤◌, ◌≢◌, ◌⊎◌, inl, inr, Bool, true, false, ◌&&◌, ◌||◌, not, nat_lt, ◌==◌, if◌then◌else◌, List, [], ◌∷◌, Option, Some, None, is_some, is_none, refl, sym, ap, subst, arith}
use Rattle.std.specs.Prelude.{length, slice_index, slice_index_or, slice_set}
use Rattle.std.proofs.lemmas.Bool.{cond_both, and_parts, and_cases, cases_eq, eq-eqb, ltb-true, true≢false}
use Rattle.fop_types.specs.declared.contents.Mask.{Mask}
use Rattle.fop_types.specs.declared.copy_jobs.Out.{Out}
use Rattle.afr_phases.specs.declared.locking.LockStep.{LockStep}
use Rattle.afr_phases.specs.declared.locking.LockStep.TheVariants as step
use Rattle.afr_phases.specs.declared.locks.Locks.{Locks}
use Rattle.afr_phases.specs.declared.outs.Outs.{Outs}
use Rattle.afr_phases.specs.Flags.{flag, flags_of, names}
use Rattle.afr_phases.specs.Locking.{next_to_lock, lost, kept_only, without_lost, ended_with, ended, asked_or_ended, next_lock}
use Rattle.afr_phases.specs.Locks.{is_open, keeping, stands, standing}
use Rattle.afr_phases.specs.Marks.{IsLost}
use Rattle.afr_phases.specs.Outs.{is_out, is_short, left}
use Rattle.afr_phases.proofs.Tracked.{flag_by, left_places, left_same}
use Rattle.txn_laws.specs.Outs.{WasLost}

-- ---- lists

pub set_at : {A : Type 0} (xs : List (Option A)) (i j : ℕ) (x y : A) → slice_index_or (slice_set xs i (Some x)) j None ≡ Some y → (slice_index_or xs j None ≡ Some y) ⊎ ((j ≡ i) × (x ≡ y))
set_at [] i j x y h = absurd cc
set_at (z ∷ zs) zero zero x y h = let same : x ≡ y = cc in inr (refl, same)
set_at (z ∷ zs) zero (suc j) x y h = inl h
set_at (z ∷ zs) (suc i) zero x y h = inl h
set_at (z ∷ zs) (suc i) (suc j) x y h = by (set_at zs i j x y h) where
  by : (slice_index_or zs j None ≡ Some y) ⊎ ((j ≡ i) × (x ≡ y)) → (slice_index_or zs j None ≡ Some y) ⊎ ((suc j ≡ suc i) × (x ≡ y))
  by (inl there) = inl there
  by (inr e) = inr (ap suc e.0, e.1)

set_some : {A : Type 0} (xs : List (Option A)) (i j : ℕ) (x : A) → is_some (slice_index_or xs j None) ≡ true → is_some (slice_index_or (slice_set xs i (Some x)) j None) ≡ true
set_some [] i j x h = absurd (true≢false (sym h))
set_some (z ∷ zs) zero zero x h = refl
set_some (z ∷ zs) zero (suc j) x h = h
set_some (z ∷ zs) (suc i) zero x h = h
set_some (z ∷ zs) (suc i) (suc j) x h = set_some zs i j x h

pub none_there : {A : Type 0} (j : ℕ) (x : A) → slice_index_or (None ∷ None ∷ None ∷ None ∷ None ∷ []) j None ≡ Some x → ⊥
none_there zero x h = absurd cc
none_there (suc zero) x h = absurd cc
none_there (suc (suc zero)) x h = absurd cc
none_there (suc (suc (suc zero))) x h = absurd cc
none_there (suc (suc (suc (suc zero)))) x h = absurd cc
none_there (suc (suc (suc (suc (suc j))))) x h = absurd cc

-- ---- one more that is out

pub left_stays : (outs : Outs) (i mark j : ℕ) (fault : Bool) → is_out outs j ≡ true → is_out (left outs i fault mark) j ≡ true
left_stays outs i mark j fault h =
    cond_both (is_out outs i) outs (record { at = slice_set outs.at i (Some (record { replica = i; fault = fault; mark = mark })) }) (λ (o : Outs). is_out o j ≡ true) (λ e. h)
    (λ e. set_some outs.at i j (record { replica = i; fault = fault; mark = mark }) h)

pub left_at : (outs : Outs) (i mark : ℕ) (fault : Bool) (j : ℕ) (out : Out) → slice_index_or (left outs i fault mark).at j None ≡ Some out
    → (slice_index_or outs.at j None ≡ Some out) ⊎ ((is_out outs i ≡ false) × ((j ≡ i) × (record { replica = i; fault = fault; mark = mark } ≡ out)))
left_at outs i mark fault j out =
    cond_both (is_out outs i) outs (record { at = slice_set outs.at i (Some (record { replica = i; fault = fault; mark = mark })) })
    (λ (o : Outs). slice_index_or o.at j None ≡ Some out → (slice_index_or outs.at j None ≡ Some out) ⊎ ((is_out outs i ≡ false) × ((j ≡ i) × (record { replica = i; fault = fault; mark = mark } ≡ out))))
    (λ e h. inl h) (λ e h. by e (set_at outs.at i j (record { replica = i; fault = fault; mark = mark }) out h))
  where
    by : is_out outs i ≡ false → (slice_index_or outs.at j None ≡ Some out) ⊎ ((j ≡ i) × (record { replica = i; fault = fault; mark = mark } ≡ out))
        → (slice_index_or outs.at j None ≡ Some out) ⊎ ((is_out outs i ≡ false) × ((j ≡ i) × (record { replica = i; fault = fault; mark = mark } ≡ out)))
    by e (inl there) = inl there
    by e (inr here) = inr (e, here)

-- ---- lost, where P holds

module _ (P : Type 0) (live : Mask) (last : List ℕ) where
  -- a replica that is out as lost
  pub record Lost (locks : Locks) (j : ℕ) (out : Out) : Type 0 where
    pub is : IsLost last out
    pub replica : out.replica ≡ j
    pub why : P → WasLost locks live last j

  -- each that is out after was out before, or is lost; and who was out stays so
  pub record Since (locks : Locks) (before after : Outs) : Type 0 where
    pub from : (j : ℕ) (out : Out) → slice_index_or after.at j None ≡ Some out → (slice_index_or before.at j None ≡ Some out) ⊎ Lost locks j out
    pub stay : (j : ℕ) → is_out before j ≡ true → is_out after j ≡ true

  pub same : (locks : Locks) (outs : Outs) → Since locks outs outs
  same locks outs = record { from = λ j out h. inl h; stay = λ j h. h }

  pub both_since : (locks : Locks) (a b c : Outs) → Since locks a b → Since locks b c → Since locks a c
  both_since locks a b c f g = record { from = λ j out h. by j out (g.from j out h); stay = λ j h. g.stay j (f.stay j h) } where
    by : (j : ℕ) (out : Out) → (slice_index_or b.at j None ≡ Some out) ⊎ Lost locks j out → (slice_index_or a.at j None ≡ Some out) ⊎ Lost locks j out
    by j out (inl there) = f.from j out there
    by j out (inr lost) = inr lost

  left_since : (locks : Locks) (outs : Outs) (i : ℕ) → (is_out outs i ≡ false → P → WasLost locks live last i) → Since locks outs (left outs i false (slice_index last i))
  left_since locks outs i why =
      record { from = λ j out h. by j out (left_at outs i (slice_index last i) false j out h); stay = λ j h. left_stays outs i (slice_index last i) j false h }
    where
      by : (j : ℕ) (out : Out) → (slice_index_or outs.at j None ≡ Some out) ⊎ ((is_out outs i ≡ false) × ((j ≡ i) × (record { replica = i; fault = false; mark = slice_index last i } ≡ out)))
          → (slice_index_or outs.at j None ≡ Some out) ⊎ Lost locks j out
      by j out (inl there) = inl there
      by j out (inr h) =
          let at : i ≡ out.replica = ap (λ (o : Out). o.replica) h.1.1 in
          let number : slice_index last i ≡ out.mark = ap (λ (o : Out). o.mark) h.1.1 in
          let fault : false ≡ out.fault = ap (λ (o : Out). o.fault) h.1.1 in
          inr (record {
            is = record { no_fault = sym fault; number = sym number ∙ ap (λ (m : ℕ). slice_index last m) at };
            replica = sym at ∙ sym h.1.0;
            why = λ p. subst (λ (m : ℕ). WasLost locks live last m) (sym h.1.0) (why h.0 p);
          })

  one_since : (locks : Locks) (outs : Outs) (b : Bool) (i : ℕ) → (b ≡ true → is_out outs i ≡ false → P → WasLost locks live last i) → Since locks outs (lost outs b i last)
  one_since locks outs true i why = left_since locks outs i (why refl)
  one_since locks outs false i why = same locks outs

  -- those that are not kept
  module _ (locks : Locks) (outs : Outs) (kept : List Bool) (n : ℕ) (why : (i : ℕ) → i < n → flag kept i ≡ false → is_out outs i ≡ false → P → WasLost locks live last i) where
    more : (x : Outs) (i : ℕ) → Since locks outs x → Since locks outs (lost x (nat_lt i n && not (flag kept i)) i last)
    more x i f = both_since locks outs x (lost x (nat_lt i n && not (flag kept i)) i last) f (one_since locks x (nat_lt i n && not (flag kept i)) i (λ h none. let p = and_parts (nat_lt i n) (not (flag kept i)) h in why i (ltb-true i n p.0) (off (flag kept i) p.1) (was none))) where
      off : (b : Bool) → not b ≡ true → b ≡ false
      off true h = absurd (true≢false (sym h))
      off false h = refl

      was : is_out x i ≡ false → is_out outs i ≡ false
      was none = by (is_out outs i) refl where
        by : (b : Bool) → is_out outs i ≡ b → b ≡ false
        by true e = absurd (true≢false (sym (f.stay i e) ∙ none))
        by false e = refl

    pub kept_since : Since locks outs (kept_only outs kept n last)
    kept_since =
        let a : Outs = lost outs (nat_lt 0 n && not (flag kept 0)) 0 last in
        let b : Outs = lost a (nat_lt 1 n && not (flag kept 1)) 1 last in
        let c : Outs = lost b (nat_lt 2 n && not (flag kept 2)) 2 last in
        let d : Outs = lost c (nat_lt 3 n && not (flag kept 3)) 3 last in
        more d 4 (more c 3 (more b 2 (more a 1 (more outs 0 (same locks outs)))))

  -- a lock that is not held any more
  by_grant : (locks : Locks) (i : ℕ) (o : Option ℕ) → slice_index_or locks.at i None ≡ o → is_some o ≡ true → is_open o i live last ≡ false → WasLost locks live last i
  by_grant locks i None at there h = absurd (true≢false (sym there))
  by_grant locks i (Some connection) at there h = by (and_cases (names live i) (slice_index last i == connection) h) where
    by : (names live i ≡ false) ⊎ ((slice_index last i == connection) ≡ false) → WasLost locks live last i
    by (inl closed) = inl closed
    by (inr other) = inr (record { connection = connection; granted = at; other = λ e. true≢false (sym (eq-eqb (slice_index last i) connection e) ∙ other) })

  grant_lost : (locks : Locks) (i : ℕ) → is_some (slice_index_or locks.at i None) ≡ true → stands locks i live last ≡ false → WasLost locks live last i
  grant_lost locks i there h = by_grant locks i (slice_index_or locks.at i None) refl there h

  lost_grant : (granted : Option ℕ) (held : Bool) → (is_none granted || held) ≡ false → (is_some granted ≡ true) × (held ≡ false)
  lost_grant None held h = absurd (true≢false h)
  lost_grant (Some connection) held h = (refl, h)

  -- the release of a lock phase
  pub noted_since : (locks : Locks) (outs : Outs) (n : ℕ) → n ≤ 5 → Since locks outs (without_lost outs locks n live last)
  unfolding without_lost
  noted_since locks outs n few = kept_since locks outs (keeping locks live last) n (λ i low off none p. by i (sym (flag_by (λ k. is_none (slice_index_or locks.at k None) || stands locks k live last) i (omega arith)) ∙ off)) where
    by : (i : ℕ) → (is_none (slice_index_or locks.at i None) || stands locks i live last) ≡ false → WasLost locks live last i
    by i h = let g = lost_grant (slice_index_or locks.at i None) (stands locks i live last) h in grant_lost locks i g.0 g.1

  -- a poll of the live replicas
  pub polled_since : (locks : Locks) (outs : Outs) (n : ℕ) → n ≤ 5 → Since locks outs (kept_only outs (flags_of live) n last)
  polled_since locks outs n few = kept_since locks outs (flags_of live) n (λ i low off none p. inl (sym (flag_by (names live) i (omega arith)) ∙ off))

  -- ---- the lock phase, where each replica before one is out or has granted its lock

  abbrev pub Covers : Locks → Outs → ℕ → Type 0
  Covers locks outs from = (j : ℕ) → j < from → (is_out outs j ≡ true) ⊎ (is_some (slice_index_or locks.at j None) ≡ true)

  covers_more : (locks : Locks) (outs : Outs) (k : ℕ) → Covers locks outs k → (is_out outs k ≡ true) ⊎ (is_some (slice_index_or locks.at k None) ≡ true) → Covers locks outs (k + 1)
  covers_more locks outs k h here j low = by (cases_eq j k) where
    by : (j ≡ k) ⊎ (j ≢ k) → (is_out outs j ≡ true) ⊎ (is_some (slice_index_or locks.at j None) ≡ true)
    by (inl same) = subst (λ (m : ℕ). (is_out outs m ≡ true) ⊎ (is_some (slice_index_or locks.at m None) ≡ true)) (sym same) here
    by (inr apart) = h j (omega arith)

  covers_since : (locks : Locks) (before after : Outs) (from : ℕ) → Since locks before after → Covers locks before from → Covers locks after from
  covers_since locks before after from f h j low = by (h j low) where
    by : (is_out before j ≡ true) ⊎ (is_some (slice_index_or locks.at j None) ≡ true) → (is_out after j ≡ true) ⊎ (is_some (slice_index_or locks.at j None) ≡ true)
    by (inl out) = inl (f.stay j out)
    by (inr there) = inr there

  module _ (n q : ℕ) (few : n ≤ 5) (locks : Locks) where
    -- the replica that is asked next, or the end
    abbrev IsNext : Outs → Outs × Option ℕ → Type 0
    IsNext before (outs, Some k) = Since locks before outs × (P → Covers locks outs k)
    IsNext before (outs, None) = Since locks before outs × (is_short outs n q ≡ false → P → Covers locks outs n)

    next_after : (a b : Outs) (t : Outs × Option ℕ) → Since locks a b → IsNext b t → IsNext a t
    next_after a b (outs, Some k) f h = (both_since locks a b outs f h.0, h.1)
    next_after a b (outs, None) f h = (both_since locks a b outs f h.0, h.1)

    gone_covers : (outs : Outs) (k : ℕ) → names live k ≡ false → k < 5 → length outs.at ≡ 5 → Covers locks outs k → Covers locks (left outs k false (slice_index last k)) (k + 1)
    gone_covers outs k l low five h =
        covers_more locks (left outs k false (slice_index last k)) k (covers_since locks outs (left outs k false (slice_index last k)) k (left_since locks outs k (λ none p. inl l)) h)
        (inl (left_same outs k (slice_index last k) false (omega arith)))

    next_since : (count k : ℕ) (outs : Outs) → n ≤ k + count → count ≤ n - k → (P → length outs.at ≡ 5) → (P → Covers locks outs k) → IsNext outs (next_to_lock count outs n q k live last)
    next_since zero k outs all most five h = (same locks outs, λ s p j low. h p j (omega arith))
    next_since (suc count) k outs all most five h =
        cond_both (is_short outs n q) _ _ (IsNext outs) (λ e. (same locks outs, λ s p. absurd (true≢false (sym e ∙ s))))
        (λ e. cond_both (is_out outs k) _ _ (IsNext outs) (λ o. next_since count (k + 1) outs (omega arith) (omega arith) five (λ p. covers_more locks outs k (h p) (inl o)))
        (λ o. cond_both (names live k) _ _ (IsNext outs) (λ l. (same locks outs, h))
        (λ l. next_after outs (left outs k false (slice_index last k)) (next_to_lock count (left outs k false (slice_index last k)) n q (k + 1) live last) (left_since locks outs k (λ none p. inl l))
        (next_since count (k + 1) (left outs k false (slice_index last k)) (omega arith) (omega arith) (λ p. left_places outs k (slice_index last k) false (five p)) (λ p. gone_covers outs k l (omega arith) (five p) (h p))))))

    -- the step of a lock phase
    abbrev pub IsStepSince : Outs → Outs × LockStep → Type 0
    IsStepSince before (outs, step.Ask k) = Since locks before outs × (P → Covers locks outs k)
    IsStepSince before (outs, step.Short) = Since locks before outs
    IsStepSince before (outs, step.Reached) = Since locks before outs

    with_end : (before outs : Outs) → Since locks before outs → IsStepSince before (ended_with outs n q)
    with_end before outs f = by (is_short outs n q) where
      by : (b : Bool) → IsStepSince before (outs, if b then step.Short else step.Reached)
      by true = f
      by false = f

    at_end : (before outs : Outs) → Since locks before outs → (is_short outs n q ≡ false → P → Covers locks outs n) → IsStepSince before (ended outs locks n q live last)
    at_end before outs f h =
        cond_both (is_short outs n q) (outs, step.Short) (ended_with (kept_only outs (standing locks live last) n last) n q) (IsStepSince before) (λ e. f)
        (λ e. with_end before (kept_only outs (standing locks live last) n last)
        (both_since locks before outs (kept_only outs (standing locks live last) n last) f
        (kept_since locks outs (standing locks live last) n (λ i low off none p. by i (h e p i low) none (sym (flag_by (λ k. stands locks k live last) i (omega arith)) ∙ off)))))
      where
        by : (i : ℕ) → (is_out outs i ≡ true) ⊎ (is_some (slice_index_or locks.at i None) ≡ true) → is_out outs i ≡ false → stands locks i live last ≡ false → WasLost locks live last i
        by i (inl out) none off = absurd (true≢false (sym out ∙ none))
        by i (inr there) none off = grant_lost locks i there off

    by_asked : (before : Outs) (t : Outs × Option ℕ) → IsNext before t → IsStepSince before (asked_or_ended t locks n q live last)
    by_asked before (outs, Some k) h = h
    by_asked before (outs, None) h = at_end before outs h.0 h.1

    pub step_since : (outs : Outs) (from : ℕ) → (P → length outs.at ≡ 5) → (P → Covers locks outs from) → IsStepSince outs (next_lock outs locks n q from live last)
    step_since outs from five h = by_asked outs (next_to_lock (n - from) outs n q from live last) (next_since (n - from) from outs (omega arith) (omega arith) five h)
