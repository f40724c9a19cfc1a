-- Who is out stays out, so that who is used was used before; and the five places stay.
use Rattle.std.proofs.Common.{◌≡◌, ◌∙◌, ℕ, ◌-◌, ◌<◌, ◌⊎◌, inl, inr, Bool, true, false, ◌&&◌, ◌||◌, cond, not, nat_lt, List, Option, Some, None, is_none, is_some, length, slice_index_or, slice_set, refl, sym, ap, subst}
use Rattle.std.specs.Prelude.{◌≢◌}
use Rattle.std.proofs.lemmas.Bool.{cond_both, and_parts, and_from, cases_eq, lt-ltb, true≢false, not-true}
use Rattle.std.proofs.lemmas.List.{get_or-set_other}
use Rattle.fop_types.specs.declared.contents.Mask.{Mask}
use Rattle.fop_types.specs.declared.messages.BrickRep.{BrickRep}
use Rattle.afr_phases.specs.declared.locking.LockStep.{LockStep}
use Rattle.afr_phases.specs.declared.locking.LockStep.TheVariants as step
use Rattle.afr_phases.specs.declared.locks.Locks.{Locks}
use Rattle.afr_phases.specs.declared.outs.Outs.{Outs}
use Rattle.afr_phases.specs.Answers.{is_fault, is_plain_done}
use Rattle.afr_phases.specs.Flags.{flag}
use Rattle.afr_phases.specs.Hearing.{heard}
use Rattle.afr_phases.specs.Locking.{next_to_lock, kept_only, without_lost, ended, ended_with, asked_or_ended, next_lock}
use Rattle.afr_phases.specs.Locks.{standing, stands, keeping, is_open}
use Rattle.afr_phases.specs.Outs.{is_out, is_short, left, used}
use Rattle.afr_phases.specs.Reached.{LostAreOut}
use Rattle.afr_phases.proofs.Reached.{next_places, kept_places, are_out, reached_hold}
use Rattle.afr_phases.proofs.Tracked.{flag_by, left_places}
use Rattle.afr_phases.proofs.Truths.{flags_at, below_five, flags_have}

-- who was out stays so
left_stays : (outs : Outs) (k mark j : ℕ) (fault : Bool) → is_out outs j ≡ true → is_out (left outs k fault mark) j ≡ true
left_stays outs k mark j fault out = by (is_out outs k) refl where
  at : is_out outs k ≡ false → (j ≡ k) ⊎ (j ≢ k) → is_some (slice_index_or (slice_set outs.at k (Some (record { replica = k; fault = fault; mark = mark }))) j None) ≡ true
  at e (inl same) = absurd (true≢false (sym out ∙ subst (λ (i : ℕ). is_out outs i ≡ false) (sym same) e))
  at e (inr other) = ap is_some (get_or-set_other outs.at k j _ None other) ∙ out

  by : (b : Bool) → is_out outs k ≡ b → is_out (cond b outs (record { at = slice_set outs.at k (Some (record { replica = k; fault = fault; mark = mark })) })) j ≡ true
  by true e = out
  by false e = at e (cases_eq j k)

-- each that is used after these are out was used before
pub used_less : (n : ℕ) (before after : Outs) → ((j : ℕ) → is_out before j ≡ true → is_out after j ≡ true) → (k : ℕ) → flag (used after n) k ≡ true → flag (used before n) k ≡ true
used_less n before after stays k h =
    let low : k < 5 = below_five (λ j. nat_lt j n && not (is_out after j)) k h in
    let parts = and_parts (nat_lt k n) (not (is_out after k)) (flags_at (λ j. nat_lt j n && not (is_out after j)) k h) in
    flags_have (λ j. nat_lt j n && not (is_out before j)) k low (and_from (nat_lt k n) (not (is_out before k)) parts.0 (ap not (was_in parts.1)))
  where
    was_in : not (is_out after k) ≡ true → is_out before k ≡ false
    was_in e = by (is_out before k) refl where
      by : (b : Bool) → is_out before k ≡ b → b ≡ false
      by true o = absurd (true≢false (sym (stays k o) ∙ not-true (is_out after k) e))
      by false o = refl

module _ (n : ℕ) (outs : Outs) (k mark : ℕ) where
  pub used_left : (fault : Bool) (j : ℕ) → flag (used (left outs k fault mark) n) j ≡ true → flag (used outs n) j ≡ true
  used_left fault = used_less n outs (left outs k fault mark) (λ i o. left_stays outs k mark i fault o)

  pub used_heard : (rep : BrickRep) (j : ℕ) → flag (used (heard outs k rep mark) n) j ≡ true → flag (used outs n) j ≡ true
  used_heard rep j = cond_both (is_plain_done rep) outs (left outs k (is_fault rep) mark) (λ (o : Outs). flag (used o n) j ≡ true → flag (used outs n) j ≡ true) (λ e h. h) (λ e h. used_left (is_fault rep) j h)

  pub five_heard : (rep : BrickRep) → length outs.at ≡ 5 → length (heard outs k rep mark).at ≡ 5
  five_heard rep five = cond_both (is_plain_done rep) outs (left outs k (is_fault rep) mark) (λ (o : Outs). length o.at ≡ 5) (λ e. five) (λ e. left_places outs k mark (is_fault rep) five)

-- ---- the next step of a lock phase

-- the five places stay, and at the end who is used holds its lock
abbrev pub IsStepFrom : ℕ → Locks → Outs × LockStep → Type 0
IsStepFrom n locks (outs, step.Ask k) = length outs.at ≡ 5
IsStepFrom n locks (outs, step.Short) = length outs.at ≡ 5
IsStepFrom n locks (outs, step.Reached) = (length outs.at ≡ 5) × ((k : ℕ) → flag (used outs n) k ≡ true → is_some (slice_index_or locks.at k None) ≡ true)

module _ (n q from : ℕ) (outs : Outs) (locks : Locks) (live : Mask) (last : List ℕ) (five : length outs.at ≡ 5) where
  open_some : (o : Option ℕ) (k : ℕ) → is_open o k live last ≡ true → is_some o ≡ true
  open_some None k h = absurd (true≢false (sym h))
  open_some (Some connection) k h = refl

  ended_places : (o : Outs) → length o.at ≡ 5 → length (ended o locks n q live last).0.at ≡ 5
  ended_places o h = cond_both (is_short o n q) (o, step.Short) (ended_with (kept_only o (standing locks live last) n last) n q) (λ (t : Outs × LockStep). length t.0.at ≡ 5) (λ e. h) (λ e. kept_places o (standing locks live last) n last h)

  asked_places : (t : Outs × Option ℕ) → length t.0.at ≡ 5 → length (asked_or_ended t locks n q live last).0.at ≡ 5
  asked_places (o, Some k) h = h
  asked_places (o, None) h = ended_places o h

  pub step_places : length (next_lock outs locks n q from live last).0.at ≡ 5
  step_places = asked_places (next_to_lock (n - from) outs n q from live last) (next_places (n - from) outs n q from live last five)

  by_step : (t : Outs × LockStep) → ◌≡◌ {A = Outs × LockStep} (next_lock outs locks n q from live last) t → length t.0.at ≡ 5 → IsStepFrom n locks t
  by_step (o, step.Ask k) e h = h
  by_step (o, step.Short) e h = h
  by_step (o, step.Reached) e h =
      (h, λ k u. open_some (slice_index_or locks.at k None) k (reached_hold outs o locks n q from live last five e k (below_five (λ j. nat_lt j n && not (is_out o j)) k u) u))

  pub step_from : IsStepFrom n locks (next_lock outs locks n q from live last)
  step_from = by_step (next_lock outs locks n q from live last) refl step_places

-- ---- the release

-- the five places stay where those that have lost their lock are out
pub lost_five : (n : ℕ) (outs : Outs) (locks : Locks) (live : Mask) (last : List ℕ) → length outs.at ≡ 5 → length (without_lost outs locks n live last).at ≡ 5
unfolding without_lost
lost_five n outs locks live last five = kept_places outs (keeping locks live last) n last five

lost_keeps_none : (granted stands : Bool) → granted ≡ true → stands ≡ false → (not granted || stands) ≡ false
lost_keeps_none true false g s = refl
lost_keeps_none true true g s = absurd (true≢false s)
lost_keeps_none false stands g s = absurd (true≢false (sym g))

none_is : (o : Option ℕ) → is_none o ≡ not (is_some o)
none_is None = refl
none_is (Some x) = refl

-- who has lost its lock is out
pub lost_are_out : LostAreOut
unfolding without_lost
lost_are_out outs locks n k live last five low below grants lost =
    are_out outs (keeping locks live last) n last five k low (and_from (nat_lt k n) (not (flag (keeping locks live last) k)) (lt-ltb k n below) (ap not off))
  where
    off : flag (keeping locks live last) k ≡ false
    off =
        flag_by (λ j. is_none (slice_index_or locks.at j None) || stands locks j live last) k low
        ∙ ap (λ (b : Bool). b || stands locks k live last) (none_is (slice_index_or locks.at k None))
        ∙ lost_keeps_none (is_some (slice_index_or locks.at k None)) (stands locks k live last) grants lost
