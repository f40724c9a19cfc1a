-- Where too few are left: a lock phase is short exactly then, at its first step too, and so is a phase that was sent to all
-- who are used and that fewer than a quorum have confirmed. And who is out stays so, by its first cause.
use Rattle.std.proofs.Common.{◌≡◌, ◌∙◌, ℕ, zero, suc, ◌+◌, ◌-◌, ◌<◌, ◌≤◌, ◌⊎◌, inl, inr, Bool, true, false, ◌&&◌, ◌||◌, not, nat_lt, cond, List, [], ◌∷◌, Option, Some, None, is_some, length, slice_index, slice_index_or, slice_set, refl, sym, ap, subst, arith, if◌then◌else◌}
use Rattle.std.specs.Prelude.{◌≢◌}
use Rattle.std.specs.List.{count_by}
use Rattle.std.proofs.lemmas.Bool.{cond_both, true≢false, cases_eq, lt-ltb}
use Rattle.std.proofs.lemmas.List.{get_or-set_other}
use Rattle.std.proofs.lemmas.List.Recursion.{is_count_by}
use Rattle.fop_types.specs.declared.contents.Mask.{Mask}
use Rattle.fop_types.specs.declared.copy_jobs.Out.{Out}
use Rattle.afr_phases.specs.declared.locking.LockStep.{LockStep}
use Rattle.afr_phases.specs.declared.locking.LockStep.TheVariants as step
use Rattle.afr_phases.specs.declared.locks.Locks.{Locks}
use Rattle.afr_phases.specs.declared.outs.Outs.{Outs}
use Rattle.afr_phases.specs.declared.wave.Wave.{Wave}
use Rattle.afr_phases.specs.Flags.{flag, names}
use Rattle.afr_phases.specs.Locking.{next_to_lock, lost, kept_only, without_lost, ended, ended_with, asked_or_ended, next_lock}
use Rattle.afr_phases.specs.Locks.{no_locks, stands, standing, keeping}
use Rattle.afr_phases.specs.Outs.{is_out, is_short, left, out_count}
use Rattle.afr_phases.specs.Tracked.{IsTracked}
use Rattle.afr_phases.specs.Waves.{is_over, confirmations}
use Rattle.afr_phases.proofs.Grants.{IsStepOf, step_of, some_used}
use Rattle.afr_phases.proofs.Reached.{reached_hold}
use Rattle.afr_phases.proofs.Tracked.{confirmed_are, used_is}
use Rattle.afr_phases.proofs.Truths.{below_five}

-- ---- the steps of a lock phase

-- a step that ends the phase for lack of replicas
abbrev pub IsShortOf : ℕ → ℕ → Outs × LockStep → Type 0
IsShortOf n q (outs, step.Ask k) = Unit {0}
IsShortOf n q (outs, step.Short) = is_short outs n q ≡ true
IsShortOf n q (outs, step.Reached) = Unit {0}

-- the first step: a replica is asked, or too few are left
abbrev pub IsFirstOf : ℕ → ℕ → Outs × LockStep → Type 0
IsFirstOf n q (outs, step.Ask k) = Unit {0}
IsFirstOf n q (outs, step.Short) = is_short outs n q ≡ true
IsFirstOf n q (outs, step.Reached) = ⊥

module _ (n q : ℕ) (live : Mask) (last : List ℕ) where
  end_short : (outs : Outs) → IsShortOf n q (ended_with outs n q)
  end_short outs = by (is_short outs n q) refl where
    by : (b : Bool) → is_short outs n q ≡ b → IsShortOf n q (outs, if b then step.Short else step.Reached)
    by true e = e
    by false e = tt

  at_short : (outs : Outs) (locks : Locks) → IsShortOf n q (ended outs locks n q live last)
  at_short outs locks = cond_both (is_short outs n q) _ _ (IsShortOf n q) (λ e. e) (λ e. end_short (kept_only outs (standing locks live last) n last))

  by_short : (locks : Locks) (t : Outs × Option ℕ) → IsShortOf n q (asked_or_ended t locks n q live last)
  by_short locks (outs, Some k) = tt
  by_short locks (outs, None) = at_short outs locks

  pub short_of : (outs : Outs) (locks : Locks) (from : ℕ) → IsShortOf n q (next_lock outs locks n q from live last)
  short_of outs locks from = by_short locks (next_to_lock (n - from) outs n q from live last)

  none_stands : (k : ℕ) → stands no_locks k live last ≡ false
  none_stands zero = refl
  none_stands (suc zero) = refl
  none_stands (suc (suc zero)) = refl
  none_stands (suc (suc (suc zero))) = refl
  none_stands (suc (suc (suc (suc zero)))) = refl
  none_stands (suc (suc (suc (suc (suc k))))) = refl

  pub first_of : (outs : Outs) → 1 ≤ q → n ≤ 5 → length outs.at ≡ 5 → IsFirstOf n q (next_lock outs no_locks n q 0 live last)
  first_of outs least few five = by (next_lock outs no_locks n q 0 live last) refl (short_of outs no_locks 0) (step_of n q live last outs no_locks 0) where
    by : (t : Outs × LockStep) → ◌≡◌ {A = Outs × LockStep} (next_lock outs no_locks n q 0 live last) t → IsShortOf n q t → IsStepOf n q t → IsFirstOf n q t
    by (o, step.Ask k) e s p = tt
    by (o, step.Short) e s p = s
    by (o, step.Reached) e s p =
        let some = some_used o n q least few p in
        let low : some.0 < 5 = below_five (λ j. nat_lt j n && not (is_out o j)) some.0 some.1 in
        absurd (true≢false (sym (reached_hold outs o no_locks n q 0 live last five e some.0 low some.1) ∙ none_stands some.0))

-- ---- whom a step asks

-- a replica that is asked is not before the one from which on they are asked
IsLater : ℕ → Outs × Option ℕ → Type 0
IsLater from (outs, Some k) = from ≤ k
IsLater from (outs, None) = Unit {0}

abbrev pub AsksFrom : ℕ → Outs × LockStep → Type 0
AsksFrom from (outs, step.Ask k) = from ≤ k
AsksFrom from (outs, step.Short) = Unit {0}
AsksFrom from (outs, step.Reached) = Unit {0}

module _ (n q : ℕ) (live : Mask) (last : List ℕ) where
  asked_later : (count k from : ℕ) (outs : Outs) → from ≤ k → IsLater from (next_to_lock count outs n q k live last)
  unfolding IsLater
  asked_later zero k from outs le = tt
  asked_later (suc count) k from outs le =
      cond_both (is_short outs n q) _ _ (IsLater from) (λ e. tt)
      (λ e. cond_both (is_out outs k) _ _ (IsLater from) (λ o. asked_later count (k + 1) from outs (omega arith))
      (λ o. cond_both (names live k) _ _ (IsLater from) (λ l. le) (λ l. asked_later count (k + 1) from (left outs k false (slice_index last k)) (omega arith))))

  end_asks : (outs : Outs) (from : ℕ) → AsksFrom from (ended_with outs n q)
  end_asks outs from = by (is_short outs n q) where
    by : (b : Bool) → AsksFrom from (outs, if b then step.Short else step.Reached)
    by true = tt
    by false = tt

  ended_asks : (outs : Outs) (locks : Locks) (from : ℕ) → AsksFrom from (ended outs locks n q live last)
  ended_asks outs locks from = cond_both (is_short outs n q) _ _ (AsksFrom from) (λ e. tt) (λ e. end_asks (kept_only outs (standing locks live last) n last) from)

  by_later : (locks : Locks) (from : ℕ) (t : Outs × Option ℕ) → IsLater from t → AsksFrom from (asked_or_ended t locks n q live last)
  unfolding IsLater
  by_later locks from (outs, Some k) later = later
  by_later locks from (outs, None) later = ended_asks outs locks from

  pub asks_from : (outs : Outs) (locks : Locks) (from : ℕ) → AsksFrom from (next_lock outs locks n q from live last)
  asks_from outs locks from = by_later locks from (next_to_lock (n - from) outs n q from live last) (asked_later (n - from) from from outs (omega arith))

-- ---- who is out stays so, by its first cause

left_keeps : (outs : Outs) (j mark k : ℕ) (fault : Bool) (out : Out) → slice_index_or outs.at k None ≡ Some out → slice_index_or (left outs j fault mark).at k None ≡ Some out
left_keeps outs j mark k fault out here = by (is_out outs j) refl where
  at : is_out outs j ≡ false → (k ≡ j) ⊎ (k ≢ j) → slice_index_or (slice_set outs.at j (Some (record { replica = j; fault = fault; mark = mark }))) k None ≡ Some out
  at e (inl same) =
      let yes : is_out outs k ≡ true = ap is_some here in
      absurd (true≢false (sym yes ∙ subst (λ (i : ℕ). is_out outs i ≡ false) (sym same) e))
  at e (inr other) = get_or-set_other outs.at j k _ None other ∙ here

  by : (b : Bool) → is_out outs j ≡ b → slice_index_or (cond b outs (record { at = slice_set outs.at j (Some (record { replica = j; fault = fault; mark = mark })) })).at k None ≡ Some out
  by true e = here
  by false e = at e (cases_eq k j)

lost_keeps : (outs : Outs) (b : Bool) (j : ℕ) (last : List ℕ) (k : ℕ) (out : Out) → slice_index_or outs.at k None ≡ Some out → slice_index_or (lost outs b j last).at k None ≡ Some out
lost_keeps outs true j last k out here = left_keeps outs j (slice_index last j) k false out here
lost_keeps outs false j last k out here = here

module _ (outs : Outs) (kept : List Bool) (n : ℕ) (last : List ℕ) (k : ℕ) (out : Out) where
  abbrev a : Outs
  a = lost outs (nat_lt 0 n && not (flag kept 0)) 0 last

  abbrev b : Outs
  b = lost a (nat_lt 1 n && not (flag kept 1)) 1 last

  abbrev c : Outs
  c = lost b (nat_lt 2 n && not (flag kept 2)) 2 last

  abbrev d : Outs
  d = lost c (nat_lt 3 n && not (flag kept 3)) 3 last

  pub kept_keeps : slice_index_or outs.at k None ≡ Some out → slice_index_or (kept_only outs kept n last).at k None ≡ Some out
  kept_keeps here =
      lost_keeps d (nat_lt 4 n && not (flag kept 4)) 4 last k out
      (lost_keeps c (nat_lt 3 n && not (flag kept 3)) 3 last k out
      (lost_keeps b (nat_lt 2 n && not (flag kept 2)) 2 last k out
      (lost_keeps a (nat_lt 1 n && not (flag kept 1)) 1 last k out
      (lost_keeps outs (nat_lt 0 n && not (flag kept 0)) 0 last k out here))))

-- also where those are noted that have lost their lock
pub noted_keeps : (n : ℕ) (outs : Outs) (locks : Locks) (live : Mask) (last : List ℕ) (k : ℕ) (out : Out) → slice_index_or outs.at k None ≡ Some out → slice_index_or (without_lost outs locks n live last).at k None ≡ Some out
unfolding without_lost
noted_keeps n outs locks live last k out here = kept_keeps outs (keeping locks live last) n last k out here

-- ---- a phase with too few confirmations

outs_in : List (Option Out) → ℕ
outs_in [] = 0
outs_in (x ∷ xs) = if is_some x then 1 + outs_in xs else outs_in xs

trues_in : List Bool → ℕ
trues_in [] = 0
trues_in (x ∷ xs) = if x then 1 + trues_in xs else trues_in xs

outs_are : (xs : List (Option Out)) → outs_in xs ≡ count_by is_some xs
unfolding outs_in
outs_are = is_count_by outs_in is_some refl (λ x xs. refl)

trues_are : (xs : List Bool) → trues_in xs ≡ count_by (λ confirms. confirms) xs
unfolding trues_in
trues_are = is_count_by trues_in (λ confirms. confirms) refl (λ x xs. refl)

-- each of the first n is out or has confirmed
fill : (n : ℕ) (xs : List (Option Out)) (cs : List Bool) → n ≤ length xs → n ≤ length cs → ((k : ℕ) → k < n → (is_some (slice_index_or xs k None) || flag cs k) ≡ true) → n ≤ outs_in xs + trues_in cs
unfolding outs_in trues_in
fill zero xs cs long wide each = omega arith
fill (suc n) [] cs long wide each = absurd (omega arith)
fill (suc n) (None ∷ xs) [] long wide each = absurd (omega arith)
fill (suc n) (Some x ∷ xs) [] long wide each = absurd (omega arith)
fill (suc n) (None ∷ xs) (false ∷ cs) long wide each = absurd (true≢false (sym (each 0 (omega arith))))
fill (suc n) (None ∷ xs) (true ∷ cs) long wide each =
    let rest : n ≤ outs_in xs + trues_in cs = fill n xs cs (omega arith) (omega arith) (λ k low. each (suc k) (omega arith)) in
    omega arith
fill (suc n) (Some x ∷ xs) (false ∷ cs) long wide each =
    let rest : n ≤ outs_in xs + trues_in cs = fill n xs cs (omega arith) (omega arith) (λ k low. each (suc k) (omega arith)) in
    omega arith
fill (suc n) (Some x ∷ xs) (true ∷ cs) long wide each =
    let rest : n ≤ outs_in xs + trues_in cs = fill n xs cs (omega arith) (omega arith) (λ k low. each (suc k) (omega arith)) in
    omega arith

out_or : (out confirmed : Bool) → not out ≡ confirmed → (out || confirmed) ≡ true
out_or true confirmed e = refl
out_or false confirmed e = sym e

module _ (n q : ℕ) (outs : Outs) (wave : Wave) (few : n ≤ 5) (t : IsTracked n outs wave) (over : is_over wave ≡ true) where
  each_one : (k : ℕ) → k < n → (is_some (slice_index_or outs.at k None) || flag wave.confirmed k) ≡ true
  each_one k low =
      let five : k < 5 = omega arith in
      let same : (nat_lt k n && not (is_out outs k)) ≡ flag wave.confirmed k = sym (used_is outs n k five) ∙ confirmed_are n outs wave t over k five in
      out_or (is_out outs k) (flag wave.confirmed k) (ap (λ (b : Bool). b && not (is_out outs k)) (sym (lt-ltb k n low)) ∙ same)

  pub few_short : confirmations wave < q → is_short outs n q ≡ true
  few_short less =
      let full : n ≤ outs_in outs.at + trues_in wave.confirmed = fill n outs.at wave.confirmed (omega (arith, t.outs_places)) (omega (arith, t.confirmed_places)) each_one in
      lt-ltb n (out_count outs + q) (omega (arith, outs_are outs.at, trues_are wave.confirmed))
