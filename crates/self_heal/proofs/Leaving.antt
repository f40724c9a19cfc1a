-- Who leaves is out, and who was out stays so.
use Rattle.std.proofs.Common.{◌≡◌, ◌≢◌, ℕ, ◌<◌, Bool, true, false, not, nat_lt, ◌&&◌, ◌⊎◌, Some, None, is_some, refl, sym, ap, subst, ◌∙◌, length, if◌then◌else◌, slice_index_or, slice_set}
use Rattle.std.proofs.Common.{inl, inr}
use Rattle.std.proofs.lemmas.Bool.{and_parts, and_from, cases_eq, true≢false}
use Rattle.std.proofs.lemmas.List.{get_or-set_same, get_or-set_other, length-set}
use Rattle.fop_types.specs.declared.contents.Mask.{Mask}
use Rattle.fop_types.specs.declared.copy_jobs.CopyJob.{CopyJob}
use Rattle.afr_phases.specs.declared.outs.Outs.{Outs}
use Rattle.afr_phases.specs.Flags.{flag, flags_of, names, both}
use Rattle.afr_phases.specs.Outs.{is_out, left, used}
use Rattle.self_heal.specs.Runs.{held_of, sources_of, sinks_of}
use Rattle.self_heal.proofs.Truths.{flags_at, flags_have, below_five, both_left, both_right, both_have}

module _ (outs : Outs) (k : ℕ) (fault : Bool) (mark : ℕ) where
  pub five_stay : length outs.at ≡ 5 → length (left outs k fault mark).at ≡ 5
  five_stay five = by (is_out outs k) where
    by : (b : Bool) → length (if b then outs else record { at = slice_set outs.at k (Some (record { replica = k; fault = fault; mark = mark })) }).at ≡ 5
    by true = five
    by false = length-set outs.at k _ ∙ five

  -- who was out stays so
  stays_out : (j : ℕ) → is_out outs j ≡ true → is_out (left outs k fault mark) j ≡ true
  stays_out j out = by (is_out outs k) refl where
    at : is_out outs k ≡ false → (j ≡ k) ⊎ (j ≢ k) → is_some (slice_index_or (slice_set outs.at k (Some (record { replica = k; fault = fault; mark = mark }))) j None) ≡ true
    at e (inl same) = absurd (true≢false (sym out ∙ subst (λ (i : ℕ). is_out outs i ≡ false) (sym same) e))
    at e (inr other) = ap is_some (get_or-set_other outs.at k j _ None other) ∙ out

    by : (b : Bool) → is_out outs k ≡ b → is_out (if b then outs else record { at = slice_set outs.at k (Some (record { replica = k; fault = fault; mark = mark })) }) j ≡ true
    by true e = out
    by false e = at e (cases_eq j k)

  -- and this one is
  is_gone : k < length outs.at → is_out (left outs k fault mark) k ≡ true
  is_gone low = by (is_out outs k) refl where
    by : (b : Bool) → is_out outs k ≡ b → is_out (if b then outs else record { at = slice_set outs.at k (Some (record { replica = k; fault = fault; mark = mark })) }) k ≡ true
    by true e = e
    by false e = ap is_some (get_or-set_same outs.at k _ None low)

  still_in : (j : ℕ) → is_out (left outs k fault mark) j ≡ false → is_out outs j ≡ false
  still_in j e = by (is_out outs j) refl where
    by : (b : Bool) → is_out outs j ≡ b → b ≡ false
    by true o = absurd (true≢false (sym (stays_out j o) ∙ e))
    by false o = refl

  used_before : (j : ℕ) → flag (used (left outs k fault mark) 5) j ≡ true → flag (used outs 5) j ≡ true
  used_before j h =
      let low = below_five (λ i. nat_lt i 5 && not (is_out (left outs k fault mark) i)) j h in
      let parts = and_parts (nat_lt j 5) (not (is_out (left outs k fault mark) j)) (flags_at (λ i. nat_lt i 5 && not (is_out (left outs k fault mark) i)) j h) in
      flags_have (λ i. nat_lt i 5 && not (is_out outs i)) j low (and_from (nat_lt j 5) (not (is_out outs j)) parts.0 (ap not (still_in j (not_true (is_out (left outs k fault mark) j) parts.1))))
    where
      not_true : (b : Bool) → not b ≡ true → b ≡ false
      not_true true e = absurd (true≢false (sym e))
      not_true false e = refl

module _ (job : CopyJob) (outs : Outs) (k : ℕ) (fault : Bool) (mark : ℕ) where
  held_before : (j : ℕ) → flag (held_of job (left outs k fault mark)) j ≡ true → flag (held_of job outs) j ≡ true
  unfolding held_of
  held_before j h =
      let own = both_left (flags_of job.held) (used (left outs k fault mark) 5) j h in
      both_have (flags_of job.held) (used outs 5) j (below_five (names job.held) j own) own
      (used_before outs k fault mark j (both_right (flags_of job.held) (used (left outs k fault mark) 5) j h))

  of_held : (m : Mask) (j : ℕ) → flag (both (flags_of m) (held_of job (left outs k fault mark))) j ≡ true → flag (both (flags_of m) (held_of job outs)) j ≡ true
  of_held m j h =
      let own = both_left (flags_of m) (held_of job (left outs k fault mark)) j h in
      both_have (flags_of m) (held_of job outs) j (below_five (names m) j own) own
      (held_before j (both_right (flags_of m) (held_of job (left outs k fault mark)) j h))

  pub sources_before : (j : ℕ) → flag (sources_of job (left outs k fault mark)) j ≡ true → flag (sources_of job outs) j ≡ true
  unfolding sources_of
  sources_before = of_held job.sources

  pub sinks_before : (j : ℕ) → flag (sinks_of job (left outs k fault mark)) j ≡ true → flag (sinks_of job outs) j ≡ true
  unfolding sinks_of
  sinks_before = of_held job.sinks

  not_held : k < length outs.at → flag (held_of job (left outs k fault mark)) k ≡ true → ⊥
  unfolding held_of
  not_held low h =
      let parts = and_parts (nat_lt k 5) (not (is_out (left outs k fault mark) k))
      (flags_at (λ i. nat_lt i 5 && not (is_out (left outs k fault mark) i)) k (both_right (flags_of job.held) (used (left outs k fault mark) 5) k h)) in
      true≢false (sym parts.1 ∙ ap not (is_gone outs k fault mark low))

  pub source_gone : k < length outs.at → flag (sources_of job (left outs k fault mark)) k ≡ true → ⊥
  unfolding sources_of
  source_gone low h = not_held low (both_right (flags_of job.sources) (held_of job (left outs k fault mark)) k h)

  pub sink_gone : k < length outs.at → flag (sinks_of job (left outs k fault mark)) k ≡ true → ⊥
  unfolding sinks_of
  sink_gone low h = not_held low (both_right (flags_of job.sinks) (held_of job (left outs k fault mark)) k h)

module _ (job : CopyJob) (outs : Outs) (k : ℕ) where
  pub source_low : flag (sources_of job outs) k ≡ true → k < 5
  unfolding sources_of
  source_low h = below_five (names job.sources) k (both_left (flags_of job.sources) (held_of job outs) k h)

  pub sink_low : flag (sinks_of job outs) k ≡ true → k < 5
  unfolding sinks_of
  sink_low h = below_five (names job.sinks) k (both_left (flags_of job.sinks) (held_of job outs) k h)

  pub sink_named : flag (sinks_of job outs) k ≡ true → names job.sinks k ≡ true
  unfolding sinks_of
  sink_named h = flags_at (names job.sinks) k (both_left (flags_of job.sinks) (held_of job outs) k h)
