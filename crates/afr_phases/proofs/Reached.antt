-- Who is used after a lock phase holds its lock.
use Rattle.std.proofs.Common.{◌≡◌, ◌∙◌, ℕ, zero, suc, ◌+◌, ◌-◌, ◌<◌, ◌⊎◌, inl, inr, Bool, true, false, ◌&&◌, cond, not, nat_lt, List, Option, Some, None, length, slice_index, refl, sym, ap, subst, arith}
use Rattle.std.specs.Prelude.{◌≢◌}
use Rattle.std.proofs.lemmas.Bool.{cases_eq}
use Rattle.fop_types.specs.declared.contents.Mask.{Mask}
use Rattle.afr_phases.specs.declared.outs.Outs.{Outs}
use Rattle.afr_phases.specs.declared.locks.Locks.{Locks}
use Rattle.afr_phases.specs.declared.locking.LockStep.{LockStep}
use Rattle.afr_phases.specs.declared.locking.LockStep.TheVariants as step
use Rattle.afr_phases.specs.Flags.{flag, names}
use Rattle.afr_phases.specs.Outs.{is_out, is_short, left, used}
use Rattle.afr_phases.specs.Locks.{stands, standing}
use Rattle.afr_phases.specs.Locking.{next_to_lock, lost, kept_only, asked_or_ended, next_lock}
use Rattle.afr_phases.proofs.Tracked.{flag_by, used_is, left_same, left_other, left_places}

-- ---- the places stay

pair_if : (b : Bool) (x y : Outs × Option ℕ) → length x.0.at ≡ 5 → length y.0.at ≡ 5 → length (cond b x y).0.at ≡ 5
pair_if true x y p q = p
pair_if false x y p q = q

pub next_places : (count : ℕ) (outs : Outs) (n q k : ℕ) (live : Mask) (last : List ℕ) → length outs.at ≡ 5 → length (next_to_lock count outs n q k live last).0.at ≡ 5
next_places zero outs n q k live last h = h
next_places (suc count) outs n q k live last h =
    pair_if (is_short outs n q) _ _ h
    (pair_if (is_out outs k) _ _ (next_places count outs n q (k + 1) live last h)
    (pair_if (names live k) _ _ h (next_places count (left outs k false (slice_index last k)) n q (k + 1) live last (left_places outs k (slice_index last k) false h))))

lost_places : (outs : Outs) (b : Bool) (k : ℕ) (last : List ℕ) → length outs.at ≡ 5 → length (lost outs b k last).at ≡ 5
lost_places outs true k last h = left_places outs k (slice_index last k) false h
lost_places outs false k last h = h

-- ---- who is lost is out, and stays so

stays_left : (outs : Outs) (j i mark : ℕ) → length outs.at ≡ 5 → j < 5 → is_out outs i ≡ true → is_out (left outs j false mark) i ≡ true
stays_left outs j i mark places low o = by_place (cases_eq i j) where
  by_place : (i ≡ j) ⊎ (i ≢ j) → is_out (left outs j false mark) i ≡ true
  by_place (inl same) = subst (λ (m : ℕ). is_out (left outs j false mark) m ≡ true) (sym same) (left_same outs j mark false (omega (arith, places)))
  by_place (inr apart) = left_other outs j mark i false apart ∙ o

stays_out : (outs : Outs) (b : Bool) (j i : ℕ) (last : List ℕ) → length outs.at ≡ 5 → j < 5 → is_out outs i ≡ true → is_out (lost outs b j last) i ≡ true
stays_out outs true j i last places low o = stays_left outs j i (slice_index last j) places low o
stays_out outs false j i last places low o = o

goes_out : (outs : Outs) (b : Bool) (k : ℕ) (last : List ℕ) → length outs.at ≡ 5 → k < 5 → b ≡ true → is_out (lost outs b k last) k ≡ true
goes_out outs true k last places low h = left_same outs k (slice_index last k) false (omega (arith, places))
goes_out outs false k last places low h = absurd cc

module _ (outs : Outs) (kept : List Bool) (n : ℕ) (last : List ℕ) (places : length outs.at ≡ 5) where
  abbrev a : Outs
  a = lost outs (nat_lt 0 n && not (flag kept 0)) 0 last

  abbrev b : Outs
  b = lost a (nat_lt 1 n && not (flag kept 1)) 1 last

  abbrev c : Outs
  c = lost b (nat_lt 2 n && not (flag kept 2)) 2 last

  abbrev d : Outs
  d = lost c (nat_lt 3 n && not (flag kept 3)) 3 last

  at_a : length a.at ≡ 5
  at_a = lost_places outs (nat_lt 0 n && not (flag kept 0)) 0 last places

  at_b : length b.at ≡ 5
  at_b = lost_places a (nat_lt 1 n && not (flag kept 1)) 1 last at_a

  at_c : length c.at ≡ 5
  at_c = lost_places b (nat_lt 2 n && not (flag kept 2)) 2 last at_b

  at_d : length d.at ≡ 5
  at_d = lost_places c (nat_lt 3 n && not (flag kept 3)) 3 last at_c

  from_d : (k : ℕ) → is_out d k ≡ true → is_out (kept_only outs kept n last) k ≡ true
  from_d k o = stays_out d (nat_lt 4 n && not (flag kept 4)) 4 k last at_d (omega arith) o

  from_c : (k : ℕ) → is_out c k ≡ true → is_out (kept_only outs kept n last) k ≡ true
  from_c k o = from_d k (stays_out c (nat_lt 3 n && not (flag kept 3)) 3 k last at_c (omega arith) o)

  from_b : (k : ℕ) → is_out b k ≡ true → is_out (kept_only outs kept n last) k ≡ true
  from_b k o = from_c k (stays_out b (nat_lt 2 n && not (flag kept 2)) 2 k last at_b (omega arith) o)

  from_a : (k : ℕ) → is_out a k ≡ true → is_out (kept_only outs kept n last) k ≡ true
  from_a k o = from_b k (stays_out a (nat_lt 1 n && not (flag kept 1)) 1 k last at_a (omega arith) o)

  pub kept_places : length (kept_only outs kept n last).at ≡ 5
  kept_places = lost_places d (nat_lt 4 n && not (flag kept 4)) 4 last at_d

  pub are_out : (k : ℕ) → k < 5 → (nat_lt k n && not (flag kept k)) ≡ true → is_out (kept_only outs kept n last) k ≡ true
  are_out zero low h = from_a 0 (goes_out outs (nat_lt 0 n && not (flag kept 0)) 0 last places low h)
  are_out (suc zero) low h = from_b 1 (goes_out a (nat_lt 1 n && not (flag kept 1)) 1 last at_a low h)
  are_out (suc (suc zero)) low h = from_c 2 (goes_out b (nat_lt 2 n && not (flag kept 2)) 2 last at_b low h)
  are_out (suc (suc (suc zero))) low h = from_d 3 (goes_out c (nat_lt 3 n && not (flag kept 3)) 3 last at_c low h)
  are_out (suc (suc (suc (suc zero)))) low h = goes_out d (nat_lt 4 n && not (flag kept 4)) 4 last at_d low h
  are_out (suc (suc (suc (suc (suc k))))) low h = absurd (omega arith)

  kept_by : (below keeps out : Bool) → ((below && not keeps) ≡ true → out ≡ true) → (below && not out) ≡ true → keeps ≡ true
  kept_by below true out all h = refl
  kept_by false false out all h = absurd cc
  kept_by true false true all h = absurd cc
  kept_by true false false all h = (let wrong : false ≡ true = all refl in absurd cc)

  pub are_kept : (k : ℕ) → k < 5 → flag (used (kept_only outs kept n last) n) k ≡ true → flag kept k ≡ true
  are_kept k low h = kept_by (nat_lt k n) (flag kept k) (is_out (kept_only outs kept n last) k) (are_out k low) (sym (used_is (kept_only outs kept n last) n k low) ∙ h)

-- ---- the end of the phase

end_case : (b c : Bool) (outs kept reached : Outs) → ◌≡◌ {A = Outs × LockStep} (cond b (outs, step.Short) (kept, cond c step.Short step.Reached)) (reached, step.Reached) → reached ≡ kept
end_case true c outs kept reached h = (let wrong : step.Short ≡ step.Reached = ap (λ (x : Outs × LockStep). x.1) h in absurd cc)
end_case false true outs kept reached h = (let wrong : step.Short ≡ step.Reached = ap (λ (x : Outs × LockStep). x.1) h in absurd cc)
end_case false false outs kept reached h = sym (ap (λ (x : Outs × LockStep). x.0) h)

by_next : (next : Outs × Option ℕ) (reached : Outs) (locks : Locks) (n q : ℕ) (live : Mask) (last : List ℕ) → length next.0.at ≡ 5
    → ◌≡◌ {A = Outs × LockStep} (asked_or_ended next locks n q live last) (reached, step.Reached)
    → (k : ℕ) → k < 5 → flag (used reached n) k ≡ true → stands locks k live last ≡ true
by_next (outs, Some j) reached locks n q live last places h k low u = (let wrong : step.Ask j ≡ step.Reached = ap (λ (x : Outs × LockStep). x.1) h in absurd cc)
by_next (outs, None) reached locks n q live last places h k low u =
    let is : reached ≡ kept_only outs (standing locks live last) n last =
    end_case (is_short outs n q) (is_short (kept_only outs (standing locks live last) n last) n q) outs (kept_only outs (standing locks live last) n last) reached h in
    sym (flag_by (λ i. stands locks i live last) k low)
    ∙ are_kept outs (standing locks live last) n last places k low (sym (ap (λ (o : Outs). flag (used o n) k) is) ∙ u)

pub reached_hold : (outs reached : Outs) (locks : Locks) (n q from : ℕ) (live : Mask) (last : List ℕ) → length outs.at ≡ 5
    → ◌≡◌ {A = Outs × LockStep} (next_lock outs locks n q from live last) (reached, step.Reached)
    → (k : ℕ) → k < 5 → flag (used reached n) k ≡ true → stands locks k live last ≡ true
reached_hold outs reached locks n q from live last places h =
    by_next (next_to_lock (n - from) outs n q from live last) reached locks n q live last (next_places (n - from) outs n q from live last places) h
