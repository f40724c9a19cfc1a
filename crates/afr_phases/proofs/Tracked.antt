-- A phase that was sent to all replicas that are not out.
use Rattle.std.proofs.Common.{◌≡◌, ◌∙◌, ℕ, zero, suc, ◌<◌, ◌⊎◌, inl, inr, Bool, true, false, ◌&&◌, ◌||◌, cond, not, nat_lt, Option, Some, None, is_some, length, refl, sym, ap, subst, arith}
use Rattle.std.specs.Prelude.{◌≢◌}
use Rattle.std.proofs.lemmas.Bool.{cases_eq}
use Rattle.std.proofs.lemmas.List.{get_or-set_same, get_or-set_other, length-set}
use Rattle.fop_types.specs.declared.copy_jobs.Out.{Out}
use Rattle.fop_types.specs.declared.messages.BrickRep.{BrickRep}
use Rattle.afr_phases.specs.declared.outs.Outs.{Outs}
use Rattle.afr_phases.specs.declared.wave.Wave.{Wave}
use Rattle.afr_phases.specs.Answers.{is_fault, is_plain_done}
use Rattle.afr_phases.specs.Flags.{flag, flags_by, no_flags, names, mask_of, outside}
use Rattle.afr_phases.specs.Hearing.{heard}
use Rattle.afr_phases.specs.Outs.{is_out, left, used}
use Rattle.afr_phases.specs.Tracked.{IsTracked}
use Rattle.afr_phases.specs.Waves.{is_asked, is_over, sent_to, taken}
use Rattle.afr_phases.proofs.Asked.{none_asked}
use Rattle.afr_phases.proofs.Bits.{named}

pub flag_by : (p : ℕ → Bool) (k : ℕ) → k < 5 → flag (flags_by p) k ≡ p k
flag_by p zero h = refl
flag_by p (suc zero) h = refl
flag_by p (suc (suc zero)) h = refl
flag_by p (suc (suc (suc zero))) h = refl
flag_by p (suc (suc (suc (suc zero)))) h = refl
flag_by p (suc (suc (suc (suc (suc k))))) h = absurd (omega arith)

no_flag : (k : ℕ) → flag no_flags k ≡ false
no_flag zero = refl
no_flag (suc zero) = refl
no_flag (suc (suc zero)) = refl
no_flag (suc (suc (suc zero))) = refl
no_flag (suc (suc (suc (suc zero)))) = refl
no_flag (suc (suc (suc (suc (suc k))))) = refl

or_none : (b : Bool) → b ≡ (b || false)
or_none true = refl
or_none false = refl

pub sent : (n : ℕ) (outs : Outs) → length outs.at ≡ 5 → IsTracked n outs (sent_to (used outs n))
sent n outs places = record {
  outs_places = places;
  asked_places = refl;
  confirmed_places = refl;
  used_are = λ k h. or_none (flag (used outs n) k) ∙ ap (λ (b : Bool). flag (used outs n) k || b) (sym (no_flag k));
  asked_are = λ k h. no_flag k;
}

-- ---- an answer

-- who is out stays out, and so does the one that leaves
pub left_same : (outs : Outs) (k mark : ℕ) (fault : Bool) → k < length outs.at → is_out (left outs k fault mark) k ≡ true
left_same outs k mark fault fits = by_case (is_out outs k) refl where
  by_case : (b : Bool) → is_out outs k ≡ b → is_out (left outs k fault mark) k ≡ true
  by_case true o = rw o o
  by_case false o = rw o (ap (λ (x : Option Out). is_some x) (get_or-set_same outs.at k (Some (record { replica = k; fault = fault; mark = mark })) None fits))

pub left_other : (outs : Outs) (k mark j : ℕ) (fault : Bool) → j ≢ k → is_out (left outs k fault mark) j ≡ is_out outs j
left_other outs k mark j fault apart = by_case (is_out outs k) refl where
  by_case : (b : Bool) → is_out outs k ≡ b → is_out (left outs k fault mark) j ≡ is_out outs j
  by_case true o = rw o refl
  by_case false o = rw o (ap (λ (x : Option Out). is_some x) (get_or-set_other outs.at k j (Some (record { replica = k; fault = fault; mark = mark })) None apart))

pub left_places : (outs : Outs) (k mark : ℕ) (fault : Bool) → length outs.at ≡ 5 → length (left outs k fault mark).at ≡ 5
left_places outs k mark fault places = by_case (is_out outs k) refl where
  by_case : (b : Bool) → is_out outs k ≡ b → length (left outs k fault mark).at ≡ 5
  by_case true o = rw o places
  by_case false o = rw o (length-set outs.at k (Some (record { replica = k; fault = fault; mark = mark })) ∙ places)

pub used_is : (outs : Outs) (n j : ℕ) → j < 5 → flag (used outs n) j ≡ (nat_lt j n && not (is_out outs j))
used_is outs n j h = flag_by (λ i. nat_lt i n && not (is_out outs i)) j h

and_none : (b : Bool) → (b && false) ≡ false
and_none true = refl
and_none false = refl

or_true : (b c : Bool) → c ≡ true → (b || c) ≡ true
or_true true c h = refl
or_true false c h = h

true_or : (b c : Bool) → b ≡ true → (b || c) ≡ true
true_or true c h = refl
true_or false c h = absurd cc

module _ (n k mark : ℕ) (fault : Bool) (outs : Outs) (wave : Wave) (low : k < 5) (waits : is_asked wave k ≡ true) (t : IsTracked n outs wave) where
  asked_same : (d : Bool) → is_asked (taken wave k d) k ≡ false
  asked_same d = get_or-set_same wave.asked k false false (omega (arith, t.asked_places))

  asked_other : (d : Bool) (j : ℕ) → j ≢ k → is_asked (taken wave k d) j ≡ is_asked wave j
  asked_other d j apart = get_or-set_other wave.asked k j false false apart

  confirmed_same : flag (taken wave k true).confirmed k ≡ true
  confirmed_same = get_or-set_same wave.confirmed k true false (omega (arith, t.confirmed_places))

  confirmed_other : (j : ℕ) → j ≢ k → flag (taken wave k true).confirmed j ≡ flag wave.confirmed j
  confirmed_other j apart = get_or-set_other wave.confirmed k j true false apart

  -- it confirms
  used_done : (j : ℕ) → j < 5 → (j ≡ k) ⊎ (j ≢ k) → flag (used outs n) j ≡ (is_asked (taken wave k true) j || flag (taken wave k true).confirmed j)
  used_done j h (inl same) =
      let used_k : flag (used outs n) k ≡ true = t.used_are k low ∙ true_or (is_asked wave k) (flag wave.confirmed k) waits in
      subst (λ (i : ℕ). flag (used outs n) i ≡ (is_asked (taken wave k true) i || flag (taken wave k true).confirmed i)) (sym same)
      (used_k ∙ sym (or_true (is_asked (taken wave k true) k) (flag (taken wave k true).confirmed k) confirmed_same))
  used_done j h (inr apart) =
      t.used_are j h ∙ sym (ap (λ (b : Bool). b || flag (taken wave k true).confirmed j) (asked_other true j apart) ∙ ap (λ (b : Bool). is_asked wave j || b) (confirmed_other j apart))

  asked_done : (j : ℕ) → (j ≡ k) ⊎ (j ≢ k) → is_asked (taken wave k true) j ≡ true → flag (taken wave k true).confirmed j ≡ false
  asked_done j (inl same) asks =
      let asks_k : is_asked (taken wave k true) k ≡ true = subst (λ (i : ℕ). is_asked (taken wave k true) i ≡ true) same asks in
      let not_k : is_asked (taken wave k true) k ≡ false = asked_same true in
      absurd cc
  asked_done j (inr apart) asks = confirmed_other j apart ∙ t.asked_are j (sym (asked_other true j apart) ∙ asks)

  done : IsTracked n outs (taken wave k true)
  done = record {
    outs_places = t.outs_places;
    asked_places = length-set wave.asked k false ∙ t.asked_places;
    confirmed_places = length-set wave.confirmed k true ∙ t.confirmed_places;
    used_are = λ j h. used_done j h (cases_eq j k);
    asked_are = λ j asks. asked_done j (cases_eq j k) asks;
  }

  -- it is out
  used_out : (j : ℕ) → j < 5 → (j ≡ k) ⊎ (j ≢ k) → flag (used (left outs k fault mark) n) j ≡ (is_asked (taken wave k false) j || flag wave.confirmed j)
  used_out j h (inl same) =
      let out_k : flag (used (left outs k fault mark) n) k ≡ false =
      used_is (left outs k fault mark) n k low
      ∙ ap (λ (b : Bool). nat_lt k n && not b) (left_same outs k mark fault (omega (arith, t.outs_places)))
      ∙ and_none (nat_lt k n) in
      let none_k : (is_asked (taken wave k false) k || flag wave.confirmed k) ≡ false =
      ap (λ (b : Bool). b || flag wave.confirmed k) (asked_same false) ∙ t.asked_are k waits in
      subst (λ (i : ℕ). flag (used (left outs k fault mark) n) i ≡ (is_asked (taken wave k false) i || flag wave.confirmed i)) (sym same) (out_k ∙ sym none_k)
  used_out j h (inr apart) =
      used_is (left outs k fault mark) n j h
      ∙ ap (λ (b : Bool). nat_lt j n && not b) (left_other outs k mark j fault apart)
      ∙ sym (used_is outs n j h) ∙ t.used_are j h
      ∙ sym (ap (λ (b : Bool). b || flag wave.confirmed j) (asked_other false j apart))

  asked_out : (j : ℕ) → (j ≡ k) ⊎ (j ≢ k) → is_asked (taken wave k false) j ≡ true → flag wave.confirmed j ≡ false
  asked_out j (inl same) asks = subst (λ (i : ℕ). flag wave.confirmed i ≡ false) (sym same) (t.asked_are k waits)
  asked_out j (inr apart) asks = t.asked_are j (sym (asked_other false j apart) ∙ asks)

  missed : IsTracked n (left outs k fault mark) (taken wave k false)
  missed = record {
    outs_places = left_places outs k mark fault t.outs_places;
    asked_places = length-set wave.asked k false ∙ t.asked_places;
    confirmed_places = t.confirmed_places;
    used_are = λ j h. used_out j h (cases_eq j k);
    asked_are = λ j asks. asked_out j (cases_eq j k) asks;
  }

  either : (d : Bool) → IsTracked n (cond d outs (left outs k fault mark)) (taken wave k d)
  either true = done
  either false = missed

pub heard_one : (n k mark : ℕ) (rep : BrickRep) (outs : Outs) (wave : Wave) → k < 5 → is_asked wave k ≡ true → IsTracked n outs wave → IsTracked n (heard outs k rep mark) (taken wave k (is_plain_done rep))
heard_one n k mark rep outs wave low waits t = either n k mark (is_fault rep) outs wave low waits t (is_plain_done rep)

-- ---- the end

pub confirmed_are : (n : ℕ) (outs : Outs) (wave : Wave) → IsTracked n outs wave → is_over wave ≡ true → (k : ℕ) → k < 5 → flag (used outs n) k ≡ flag wave.confirmed k
confirmed_are n outs wave t over k h = t.used_are k h ∙ ap (λ (b : Bool). b || flag wave.confirmed k) (none_asked wave k h over)

pub outsiders : (n : ℕ) (outs : Outs) (wave : Wave) → IsTracked n outs wave → is_over wave ≡ true → (k : ℕ) → k < 5 → names (mask_of (outside n (used outs n))) k ≡ (nat_lt k n && not (flag wave.confirmed k))
outsiders n outs wave t over k h =
    named (outside n (used outs n)) k h
    ∙ flag_by (λ i. nat_lt i n && not (flag (used outs n) i)) k h
    ∙ ap (λ (b : Bool). nat_lt k n && not b) (confirmed_are n outs wave t over k h)
