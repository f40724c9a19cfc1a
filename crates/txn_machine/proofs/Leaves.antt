-- A copy that a transaction asked for leaves a sink out of date only where a replica that the transaction used went out in it.
use Rattle.std.proofs.Common.{◌≡◌, ◌∙◌, ℕ, zero, suc, ◌<◌, ◌⊎◌, inl, inr, Bool, true, false, not, nat_lt, ◌&&◌, cond, List, [], ◌∷◌, Option, Some, None, is_none, is_some, refl, sym, ap, subst, slice_set}
use Rattle.std.specs.Prelude.{slice_index_or}
use Rattle.std.proofs.lemmas.Bool.{cond_both, and_from, lt-ltb, true≢false}
use Rattle.fop_types.specs.declared.answers.SplitRow.{SplitRow}
use Rattle.fop_types.specs.declared.cells.Cell.{Cell}
use Rattle.fop_types.specs.declared.contents.Content.{Content}
use Rattle.fop_types.specs.declared.copy_jobs.CopyJob.{CopyJob}
use Rattle.fop_types.specs.declared.copy_jobs.Out.{Out}
use Rattle.fop_types.specs.declared.messages.BrickRep.{BrickRep}
use Rattle.afr_phases.specs.declared.outs.Outs.{Outs}
use Rattle.afr_phases.specs.Answers.{is_fault, content_in}
use Rattle.afr_phases.specs.Flags.{flag, flags_of, names, mask_of, lowest, no_flags}
use Rattle.afr_phases.specs.Outs.{is_out, left, used, outs_listed}
use Rattle.afr_phases.specs.Waves.{is_over}
use Rattle.afr_phases.proofs.Bits.{named}
use Rattle.afr_phases.proofs.Truths.{flags_have, both_have, lowest_none, lowest_some}
use Rattle.afr_transaction.specs.declared.txn.Txn.{Txn}
use Rattle.afr_transaction.specs.Txns.{alive}
use Rattle.self_heal.specs.declared.run.CopyRun.{CopyRun}
use Rattle.self_heal.specs.declared.stage.CopyNeed.{CopyNeed}
use Rattle.self_heal.specs.declared.stage.CopyNeed.TheVariants as need
use Rattle.self_heal.specs.declared.stage.Origin.{Origin}
use Rattle.self_heal.specs.declared.stage.Stage.{Stage}
use Rattle.self_heal.specs.declared.stage.Stage.TheVariants as stage
use Rattle.self_heal.specs.Handed.{Handed, after}
use Rattle.self_heal.specs.Runs.{new_run, held_of, sources_of, sinks_of, sources_left, sinks_left, finished, fetching, clearing, at_cell, current_cell, next_cell, replacing, aspect_at, fetched, with_origin, answered_in}
use Rattle.self_heal.proofs.Branches.{confirmed, lost, taken_cases}
use Rattle.self_heal.proofs.Leaving.{sinks_before}
use Rattle.txn_laws.specs.Rounds.{IsOutIn, HasWentOut}
use Rattle.txn_machine.specs.Leaves.{IsJobFor, AreOwnOuts, AreCurrentIn, IsRunFor, LeavesIn, RunsBegin, RunsGoOn, RunsLeaveForLoss}

-- ---- who is out

is_listed : (outs : List (Option Out)) (k : ℕ) (out : Out) → slice_index_or outs k None ≡ Some out → IsOutIn out.replica (outs_listed outs)
is_listed [] k out h = absurd cc
is_listed (None ∷ outs) zero out h = absurd cc
is_listed (Some o ∷ outs) zero out h = inl (let same : o ≡ out = cc in ap (λ (x : Out). x.replica) same)
is_listed (None ∷ outs) (suc k) out h = is_listed outs k out h
is_listed (Some o ∷ outs) (suc k) out h = inr (is_listed outs k out h)

set_or_before : (outs : List (Option Out)) (k j : ℕ) (new out : Out) → slice_index_or (slice_set outs k (Some new)) j None ≡ Some out → (slice_index_or outs j None ≡ Some out) ⊎ ((j ≡ k) × (new ≡ out))
set_or_before [] k j new out h = inl h
set_or_before (o ∷ outs) zero zero new out h = inr (refl, cc)
set_or_before (o ∷ outs) zero (suc j) new out h = inl h
set_or_before (o ∷ outs) (suc k) zero new out h = inl h
set_or_before (o ∷ outs) (suc k) (suc j) new out h = up (set_or_before outs k j new out h) where
  up : (slice_index_or outs j None ≡ Some out) ⊎ ((j ≡ k) × (new ≡ out)) → (slice_index_or outs j None ≡ Some out) ⊎ ((suc j ≡ suc k) × (new ≡ out))
  up (inl was) = inl was
  up (inr is) = inr (ap suc is.0, is.1)

own_after : (outs : Outs) (k mark : ℕ) (fault : Bool) → AreOwnOuts outs → AreOwnOuts (left outs k fault mark)
own_after outs k mark fault own =
    cond_both (is_out outs k) outs (record { at = slice_set outs.at k (Some (record { replica = k; fault = fault; mark = mark })) }) AreOwnOuts (λ e. own)
    (λ e j out h. by j out (set_or_before outs.at k j (record { replica = k; fault = fault; mark = mark }) out h))
  where
    by : (j : ℕ) (out : Out) → (slice_index_or outs.at j None ≡ Some out) ⊎ ((j ≡ k) × (record { replica = k; fault = fault; mark = mark } ≡ out)) → out.replica ≡ j
    by j out (inl was) = own j out was
    by j out (inr is) = ap (λ (x : Out). x.replica) (sym is.1) ∙ sym is.0

none_own : (k : ℕ) (out : Out) → slice_index_or (None ∷ None ∷ None ∷ None ∷ None ∷ []) k None ≡ Some out → out.replica ≡ k
none_own zero out h = absurd cc
none_own (suc zero) out h = absurd cc
none_own (suc (suc zero)) out h = absurd cc
none_own (suc (suc (suc zero))) out h = absurd cc
none_own (suc (suc (suc (suc zero)))) out h = absurd cc
none_own (suc (suc (suc (suc (suc k))))) out h = absurd cc

-- ---- who is left

module _ (job : CopyJob) (outs : Outs) (k : ℕ) (low : k < 5) (holds : names job.held k ≡ true) (here : is_out outs k ≡ false) where
  held_here : flag (held_of job outs) k ≡ true
  unfolding held_of
  held_here =
      both_have (flags_of job.held) (used outs 5) k low (flags_have (names job.held) k low holds)
      (flags_have (λ j. nat_lt j 5 && not (is_out outs j)) k low (and_from (nat_lt k 5) (not (is_out outs k)) (lt-ltb k 5 low) (ap not here)))

  sink_here : names job.sinks k ≡ true → flag (sinks_of job outs) k ≡ true
  unfolding sinks_of
  sink_here sink = both_have (flags_of job.sinks) (held_of job outs) k low (flags_have (names job.sinks) k low sink) held_here

  source_here : names job.sources k ≡ true → flag (sources_of job outs) k ≡ true
  unfolding sources_of
  source_here source = both_have (flags_of job.sources) (held_of job outs) k low (flags_have (names job.sources) k low source) held_here

none_is : (o : Option ℕ) → is_none o ≡ true → is_some o ≡ true → ⊥
none_is None n s = true≢false (sym s)
none_is (Some k) n s = true≢false (sym n)

-- ---- a copy that ends

module _ (txn : Txn) where
  abbrev Goes : CopyRun × CopyNeed → Type 0
  Goes t = IsRunFor txn t.0 × LeavesIn txn t.1

  module _ (run : CopyRun) (job : IsJobFor txn run.job) (own : AreOwnOuts run.outs) where
    went_out : (k : ℕ) → k < 5 → names run.job.held k ≡ true → is_out run.outs k ≡ true → HasWentOut (alive txn) (outs_listed run.outs.at)
    went_out k low holds gone = by (slice_index_or run.outs.at k None) refl gone where
      by : (o : Option Out) → slice_index_or run.outs.at k None ≡ o → is_some o ≡ true → HasWentOut (alive txn) (outs_listed run.outs.at)
      by None e some = absurd (true≢false (sym some))
      by (Some out) e some = record {
        replica = k;
        was_used = job.used k low holds;
        out = subst (λ (j : ℕ). IsOutIn j (outs_listed run.outs.at)) (own k out e) (is_listed run.outs.at k out e);
      }

    -- where each sink that is left is current, or a replica went out
    ends : (current : List Bool) → ((k : ℕ) → k < 5 → flag (sinks_left run) k ≡ true → flag current k ≡ false → HasWentOut (alive txn) (outs_listed run.outs.at)) → Goes (finished run current)
    ends current pays = (record { job = job; outs = own; current = tt }, λ k sink still behind. by k (job.sinks k sink) behind (is_out run.outs k) refl) where
      by : (k : ℕ) → (k < 5) × ((names run.job.sinks k ≡ true) × (names run.job.held k ≡ true)) → names (mask_of current) k ≡ false → (b : Bool) → is_out run.outs k ≡ b → HasWentOut (alive txn) (outs_listed run.outs.at)
      by k is behind true gone = went_out k is.0 is.1.1 gone
      by k is behind false here = pays k is.0 (sink_here run.job run.outs k is.0 is.1.1 here is.1.0) (sym (named current k is.0) ∙ behind)

    -- without a sink nobody is left out of date, and without a source that one went out
    no_sink : is_none (lowest (sinks_left run)) ≡ true → Goes (finished run no_flags)
    no_sink none = ends no_flags (λ k low here behind. absurd (none_is (lowest (sinks_left run)) none (lowest_some (sinks_left run) k low here)))

    no_source : lowest (sources_left run) ≡ None → Goes (finished run no_flags)
    no_source none = ends no_flags (λ k low here behind. by (is_out run.outs job.source.replica) refl) where
      by : (b : Bool) → is_out run.outs job.source.replica ≡ b → HasWentOut (alive txn) (outs_listed run.outs.at)
      by true gone = went_out job.source.replica job.source.low job.source.holds gone
      by false here =
          absurd (true≢false (sym (source_here run.job run.outs job.source.replica job.source.low job.source.holds here job.source.named) ∙ lowest_none (sources_left run) job.source.replica job.source.low none))

    -- ---- the next step

    clears : Goes (clearing run)
    clears = (record { job = job; outs = own; current = λ k f. f }, tt)

    fetches : (cell : Cell) (from : Option ℕ) → lowest (sources_left run) ≡ from → Goes (fetching run cell from)
    fetches cell None e = no_source e
    fetches cell (Some from) e = (record { job = job; outs = own; current = tt }, tt)

    at : (cell : Option Cell) → Goes (at_cell run cell)
    at None = clears
    at (Some cell) = fetches cell (lowest (sources_left run)) refl

    next : Goes (next_cell run)
    next = cond_both (is_none (lowest (sinks_left run))) (finished run no_flags) (at_cell run (current_cell run)) Goes no_sink (λ e. at (current_cell run))

    replaces : (cell : Option Cell) (content : Content) (origin : Origin) → Goes (replacing run cell content origin)
    replaces None content origin = clears
    replaces (Some cell) content origin = (record { job = job; outs = own; current = tt }, tt)

    waits : AreCurrentIn run.stage run → Goes (run, need.Wait)
    waits current = (record { job = job; outs = own; current = current }, tt)

    cleared : (current : List Bool) → AreCurrentIn run.stage run → ((k : ℕ) → flag (sinks_left run) k ≡ true → flag current k ≡ true) → Goes (cond (not (is_over run.wave)) (run, need.Wait) (finished run current))
    cleared current covered all =
        cond_both (not (is_over run.wave)) (run, need.Wait) (finished run current) Goes (λ e. waits covered)
        (λ e. ends current (λ k low here behind. absurd (true≢false (sym (all k here) ∙ behind))))

  replaced : (run : CopyRun) → IsJobFor txn run.job → AreOwnOuts run.outs → (origin : Origin) → AreCurrentIn run.stage run
      → Goes (cond (not (is_over run.wave)) (run, need.Wait) (next_cell (with_origin run origin)))
  replaced run job own origin covered =
      cond_both (not (is_over run.wave)) (run, need.Wait) (next_cell (with_origin run origin)) Goes (λ e. waits run job own covered) (λ e. next (with_origin run origin) job own)

  -- ---- an answer

  module _ (run : CopyRun) (k mark : ℕ) (rep : BrickRep) (is : IsRunFor txn run) where
    own_lost : AreOwnOuts (left run.outs k (is_fault rep) mark)
    own_lost = own_after run.outs k mark (is_fault rep) is.outs

    fewer : (j : ℕ) → flag (sinks_left (lost run k rep mark)) j ≡ true → flag (sinks_left run) j ≡ true
    fewer = sinks_before run.job run.outs k (is_fault rep) mark

    by_content : (o : Option (Content × ℕ)) → Goes (fetched run k (is_fault rep) mark o)
    by_content None = next (lost run k rep mark) is.job own_lost
    by_content (Some content) = replaces (confirmed run k) is.job is.outs (current_cell run) content.0 (record { source = k; last = content.1 })

    by_stage : (s : Stage) → run.stage ≡ s → AreCurrentIn s run → Goes (answered_in s run k rep mark)
    by_stage (stage.Fetching from) e current = by_content (content_in rep (aspect_at (current_cell run)))
    by_stage (stage.Replacing origin) e current =
        taken_cases run k rep mark (λ (x : CopyRun). Goes (cond (not (is_over x.wave)) (x, need.Wait) (next_cell (with_origin x origin))))
        (λ plain. replaced (confirmed run k) is.job is.outs origin (subst (λ (s : Stage). AreCurrentIn s (confirmed run k)) (sym e) tt))
        (λ no. replaced (lost run k rep mark) is.job own_lost origin (subst (λ (s : Stage). AreCurrentIn s (lost run k rep mark)) (sym e) tt))
    by_stage (stage.Clearing list) e current =
        taken_cases run k rep mark (λ (x : CopyRun). Goes (cond (not (is_over x.wave)) (x, need.Wait) (finished x list)))
        (λ plain. cleared (confirmed run k) is.job is.outs list (subst (λ (s : Stage). AreCurrentIn s (confirmed run k)) (sym e) current) current)
        (λ no. cleared (lost run k rep mark) is.job own_lost list (subst (λ (s : Stage). AreCurrentIn s (lost run k rep mark)) (sym e) (λ j f. current j (fewer j f))) (λ j f. current j (fewer j f)))
    by_stage stage.Over e current = (is, tt)

-- ---- every copy

pub runs_begin : RunsBegin
runs_begin txn job rows is = next txn (new_run job rows) is none_own

pub runs_go_on : RunsGoOn
runs_go_on txn run k mark rep is = by_stage txn run k mark rep is run.stage refl is.current

whole : (txn : Txn) (job : CopyJob) (rows : List SplitRow) (hs : List Handed) → IsJobFor txn job → IsRunFor txn (after job rows hs).0 × LeavesIn txn (after job rows hs).1
whole txn job rows [] is = runs_begin txn job rows is
whole txn job rows (h ∷ hs) is = runs_go_on txn (after job rows hs).0 h.replica h.mark h.rep (whole txn job rows hs is).0

pub runs_leave_for_loss : RunsLeaveForLoss
runs_leave_for_loss txn job rows hs is = (whole txn job rows hs is).1
