-- A copy between two turns: what it begins with, and what an answer makes of it.
use Rattle.std.proofs.Common.{◌≡◌, ◌∙◌, ℕ, zero, suc, ◌==◌, ◌<◌, ◌≤◌, Bool, true, false, ◌&&◌, not, is_none, is_some, cond, List, ◌∷◌, Option, Some, None, refl, sym, ap, subst, arith}
use Rattle.std.specs.Prelude.{slice_get}
use Rattle.std.proofs.lemmas.Bool.{and_parts, and_from, true≢false, eqb-true, eq-eqb}
use Rattle.fop_types.specs.declared.answers.SplitRow.{SplitRow}
use Rattle.fop_types.specs.declared.cells.Cell.{Cell}
use Rattle.fop_types.specs.declared.contents.Content.{Content}
use Rattle.fop_types.specs.declared.copy_jobs.CopyJob.{CopyJob}
use Rattle.fop_types.specs.declared.messages.BrickRep.{BrickRep}
use Rattle.fop_types.specs.declared.messages.BrickReq.{BrickReq}
use Rattle.fop_types.specs.declared.messages.BrickReq.TheVariants as req
use Rattle.afr_phases.specs.declared.outs.Outs.{Outs}
use Rattle.afr_phases.specs.declared.wave.Wave.{Wave}
use Rattle.afr_phases.specs.Answers.{is_fault, is_plain_done, content_in}
use Rattle.afr_phases.specs.Asked.{is_within, is_only, is_waiting, IsLast, AreSent}
use Rattle.afr_phases.specs.CopyWork.{HasWork}
use Rattle.afr_phases.specs.Flags.{flag, flags_of, names, mask_of, both, lowest, no_flags}
use Rattle.afr_phases.specs.Outs.{left, no_outs, used}
use Rattle.afr_phases.specs.Sending.{sends}
use Rattle.afr_phases.specs.Waves.{is_asked, is_over, sent_to, taken}
use Rattle.afr_phases.proofs.Asked.{within_at, only_at, only_has, over_after, asked_after, sent_each, waiting_for, waiting_after, last_of}
use Rattle.afr_phases.proofs.Truths.{flags_at, below_five, flags_have, both_left, both_right, both_have, lowest_at, lowest_some, some_there}
use Rattle.self_heal.specs.declared.run.CopyRun.{CopyRun}
use Rattle.self_heal.specs.declared.stage.CopyNeed.{CopyNeed}
use Rattle.self_heal.specs.declared.stage.CopyNeed.TheVariants as need
use Rattle.self_heal.specs.declared.stage.Origin.{Origin}
use Rattle.self_heal.specs.declared.stage.Stage.{Stage}
use Rattle.self_heal.specs.declared.stage.Stage.TheVariants as stage
use Rattle.self_heal.specs.Runs.{new_run, held_of, sources_of, sinks_of, held_left, sources_left, sinks_left, cleared, only, asking, finished, fetching, clearing, at_cell, current_cell, next_cell, replacing, aspect_at, fetched, fetch_taken, with_origin, replace_taken, clear_taken, answered_in, answered}
use Rattle.self_heal.specs.Turning.{is_staged, is_under_way, GoesOn, Begins, AfterAnswer}

-- ---- who holds its lock

held_named : (job : CopyJob) (outs : Outs) (k : ℕ) → flag (held_of job outs) k ≡ true → flag (flags_of job.held) k ≡ true
unfolding held_of
held_named job outs k h = both_left (flags_of job.held) (used outs 5) k h

sink_held : (job : CopyJob) (outs : Outs) (k : ℕ) → flag (sinks_of job outs) k ≡ true → flag (held_of job outs) k ≡ true
unfolding sinks_of
sink_held job outs k h = both_right (flags_of job.sinks) (held_of job outs) k h

source_held : (job : CopyJob) (outs : Outs) (k : ℕ) → flag (sources_of job outs) k ≡ true → flag (held_of job outs) k ≡ true
unfolding sources_of
source_held job outs k h = both_right (flags_of job.sources) (held_of job outs) k h

-- ---- requests

-- requests that go to some replicas of a set
record Goes (n : ℕ) (to : List Bool) (req : BrickReq) : Type 0 where
  waiting : is_waiting n (sent_to to) ≡ true
  sent : AreSent (sent_to to) (sends to req)

module _ (n : ℕ) (run : CopyRun) (within : is_within n (flags_of run.job.held) ≡ true) where
  held_low : (k : ℕ) → flag (held_of run.job run.outs) k ≡ true → k < n
  held_low k h = within_at n k (flags_of run.job.held) within (held_named run.job run.outs k h)

  to_both : (a b : List Bool) (req : BrickReq) (k : ℕ) → flag (both a b) k ≡ true → ((j : ℕ) → flag (both a b) j ≡ true → j < n) → Goes n (both a b) req
  to_both a b req k some low = record {
    waiting = waiting_for n k (both a b) (below_five (λ j. flag a j && flag b j) k some) some low;
    sent = sent_each (λ j. flag a j && flag b j) req;
  }

  to_held : (req : BrickReq) (k : ℕ) → flag (held_of run.job run.outs) k ≡ true → Goes n (held_of run.job run.outs) req
  unfolding held_of
  to_held req k some = to_both (flags_of run.job.held) (used run.outs 5) req k some (λ j h. held_low j h)

  to_sinks : (req : BrickReq) (k : ℕ) → flag (sinks_of run.job run.outs) k ≡ true → Goes n (sinks_of run.job run.outs) req
  unfolding sinks_of
  to_sinks req k some = to_both (flags_of run.job.sinks) (held_of run.job run.outs) req k some (λ j h. held_low j (sink_held run.job run.outs j h))

  to_only : (req : BrickReq) (k : ℕ) → k < 5 → k < n → Goes n (only k) req
  to_only req k five low = record {
    waiting = waiting_for n k (only k) five (flags_have (λ j. k == j) k five (eq-eqb k k refl)) (λ j h. let same : k ≡ j = eqb-true k j (flags_at (λ i. k == i) j h) in omega arith);
    sent = sent_each (λ j. k == j) req;
  }

  asks : (to : List Bool) (req : BrickReq) (stage : Stage) → Goes n to req → is_staged stage (record run { wave = sent_to to; stage = stage }) ≡ true
      → Begins n (asking run to req stage).0 (asking run to req stage).1
  asks to req stage goes fits = (
    and_from (is_waiting n (sent_to to)) (is_within n (flags_of run.job.held) && is_staged stage (record run { wave = sent_to to; stage = stage })) goes.waiting
        (and_from (is_within n (flags_of run.job.held)) (is_staged stage (record run { wave = sent_to to; stage = stage })) within fits),
    goes.sent,
  )

  -- ---- the next request

  clears : (k : ℕ) → flag (held_left run) k ≡ true → Begins n (clearing run).0 (clearing run).1
  clears k some = asks (held_left run) (req.Clear run.job.cells (mask_of (cleared run (sinks_left run)))) (stage.Clearing (sinks_left run)) (to_held _ k some) refl

  replaces : (cell : Option Cell) (content : Content) (origin : Origin) (k : ℕ) → flag (sinks_left run) k ≡ true → Begins n (replacing run cell content origin).0 (replacing run cell content origin).1
  replaces None content origin k some = clears k (sink_held run.job run.outs k some)
  replaces (Some cell) content origin k some = asks (sinks_left run) (req.Replace cell origin.last content) (stage.Replacing origin) (to_sinks _ k some) refl

  only_from : (from : ℕ) → is_only from (only from) ≡ true
  only_from from = only_has from (only from) (λ j h. let same : from ≡ j = eqb-true from j (flags_at (λ i. from == i) j h) in sym same)

  fetches : (cell : Cell) (from : ℕ) → lowest (sources_left run) ≡ Some from → is_some (lowest (sinks_left run)) ≡ true
      → Begins n (fetching run cell (Some from)).0 (fetching run cell (Some from)).1
  fetches cell from at some =
      let is = lowest_at (sources_left run) from at in
      asks (only from) (req.Fetch 0 cell) (stage.Fetching from) (to_only _ from is.1 (held_low from (source_held run.job run.outs from is.0)))
      (and_from (is_only from (only from)) (is_some (lowest (sinks_left run))) (only_from from) some)

  begun : (t : CopyRun × CopyNeed) → Begins n t.0 t.1 → GoesOn n t.0 t.1
  begun (after, need.Send list) h = h
  begun (after, need.Done done) h = absurd h
  begun (after, need.Wait) h = absurd h

  at_cells : (cell : Option Cell) → is_some (lowest (sinks_left run)) ≡ true → GoesOn n (at_cell run cell).0 (at_cell run cell).1
  at_cells None some = let k = some_there (sinks_left run) some in begun (clearing run) (clears k.0 (sink_held run.job run.outs k.0 k.1.0))
  at_cells (Some cell) some = by (lowest (sources_left run)) refl where
    by : (o : Option ℕ) → lowest (sources_left run) ≡ o → GoesOn n (fetching run cell o).0 (fetching run cell o).1
    by None e = refl
    by (Some from) e = begun (fetching run cell (Some from)) (fetches cell from e some)

  next_on : GoesOn n (next_cell run).0 (next_cell run).1
  next_on = by (lowest (sinks_left run)) refl where
    by : (o : Option ℕ) → lowest (sinks_left run) ≡ o → GoesOn n (cond (is_none o) (finished run no_flags) (at_cell run (current_cell run))).0 (cond (is_none o) (finished run no_flags) (at_cell run (current_cell run))).1
    by None e = refl
    by (Some k) e = at_cells (current_cell run) (ap is_some e)

-- ---- answers

after_last : (n k : ℕ) (wave : Wave) (t : CopyRun × CopyNeed) → IsLast k wave → GoesOn n t.0 t.1 → AfterAnswer n k wave t.0 t.1
after_last n k wave (run, need.Send list) last h = (last, h)
after_last n k wave (run, need.Done done) last h = (last, h)
after_last n k wave (run, need.Wait) last h = absurd h

module _ (n k mark : ℕ) (run : CopyRun) (rep : BrickRep) (few : n ≤ 5) (waits : is_waiting n run.wave ≡ true) (within : is_within n (flags_of run.job.held) ≡ true) where
  asked_within : is_within n run.wave.asked ≡ true
  asked_within = (and_parts (not (is_over run.wave)) (is_within n run.wave.asked) waits).1

  -- who was asked last has answered
  on_last : (confirms : Bool) (t : CopyRun × CopyNeed) → is_over (taken run.wave k confirms) ≡ true → GoesOn n t.0 t.1 → AfterAnswer n k run.wave t.0 t.1
  on_last confirms t over h = after_last n k run.wave t (last_of n k run.wave confirms few asked_within over) h

  fetch_on : is_only k run.wave.asked ≡ true → is_some (lowest (sinks_left run)) ≡ true → AfterAnswer n k run.wave (fetch_taken run k rep mark).0 (fetch_taken run k rep mark).1
  fetch_on one some = by (content_in rep (aspect_at (current_cell run))) where
    sink : (j : ℕ) × ((flag (sinks_left run) j ≡ true) × (j < 5))
    sink = some_there (sinks_left run) some

    by : (o : Option (Content × ℕ)) → AfterAnswer n k run.wave (fetched run k (is_fault rep) mark o).0 (fetched run k (is_fault rep) mark o).1
    by None = on_last false (fetched run k (is_fault rep) mark None) (over_after run.wave k false one)
        (next_on n (record run { wave = taken run.wave k false; outs = left run.outs k (is_fault rep) mark }) within)
    by (Some content) =
        let after : CopyRun = record run { wave = taken run.wave k true } in
        on_last true (fetched run k (is_fault rep) mark (Some content)) (over_after run.wave k true one)
        (begun n after within (replacing after (current_cell run) content.0 (record { source = k; last = content.1 }))
        (replaces n after within (current_cell run) content.0 (record { source = k; last = content.1 }) sink.0 sink.1.0))

  -- others are asked still
  still_on : (after : CopyRun) (confirms : Bool) → after.wave ≡ taken run.wave k confirms → after.job ≡ run.job → is_staged after.stage after ≡ true → is_over after.wave ≡ false → AfterAnswer n k run.wave after need.Wait
  still_on after confirms wave job fits more = (
    and_from (is_waiting n after.wave) (is_within n (flags_of after.job.held) && is_staged after.stage after)
        (subst (λ (w : Wave). is_waiting n w ≡ true) (sym wave) (waiting_after n k run.wave confirms waits (ap is_over (sym wave) ∙ more)))
        (and_from (is_within n (flags_of after.job.held)) (is_staged after.stage after) (ap (λ (j : CopyJob). is_within n (flags_of j.held)) job ∙ within) fits),
    λ j. ap (λ (w : Wave). is_asked w j) wave ∙ asked_after run.wave k j confirms,
  )

  -- everybody is asked, or the last one has answered
  either_on : (t : CopyRun × CopyNeed) (after : CopyRun) (confirms : Bool) → after.wave ≡ taken run.wave k confirms → after.job ≡ run.job → is_staged after.stage after ≡ true → GoesOn n t.0 t.1
      → AfterAnswer n k run.wave (cond (not (is_over after.wave)) (after, need.Wait) t).0 (cond (not (is_over after.wave)) (after, need.Wait) t).1
  either_on t after confirms wave job fits h = by (is_over after.wave) refl where
    by : (b : Bool) → is_over after.wave ≡ b → AfterAnswer n k run.wave (cond (not b) (after, need.Wait) t).0 (cond (not b) (after, need.Wait) t).1
    by true e = on_last confirms t (ap is_over (sym wave) ∙ e) h
    by false e = still_on after confirms wave job fits e

  -- what an answer to a replacement or a clear makes of the copy, by whether it confirms
  abbrev heard : Bool → CopyRun
  heard b = cond b (record run { wave = taken run.wave k true }) (record run { wave = taken run.wave k false; outs = left run.outs k (is_fault rep) mark })

  replace_on : (origin : Origin) → run.stage ≡ stage.Replacing origin → AfterAnswer n k run.wave (replace_taken run k rep mark origin).0 (replace_taken run k rep mark origin).1
  replace_on origin staged = by (is_plain_done rep) where
    by : (b : Bool) → AfterAnswer n k run.wave (cond (not (is_over (heard b).wave)) (heard b, need.Wait) (next_cell (with_origin (heard b) origin))).0
        (cond (not (is_over (heard b).wave)) (heard b, need.Wait) (next_cell (with_origin (heard b) origin))).1
    by true = either_on (next_cell (with_origin (heard true) origin)) (heard true) true refl refl (rw staged refl) (next_on n (with_origin (heard true) origin) within)
    by false = either_on (next_cell (with_origin (heard false) origin)) (heard false) false refl refl (rw staged refl) (next_on n (with_origin (heard false) origin) within)

  clear_on : (current : List Bool) → run.stage ≡ stage.Clearing current → AfterAnswer n k run.wave (clear_taken run k rep mark current).0 (clear_taken run k rep mark current).1
  clear_on current staged = by (is_plain_done rep) where
    by : (b : Bool) → AfterAnswer n k run.wave (cond (not (is_over (heard b).wave)) (heard b, need.Wait) (finished (heard b) current)).0
        (cond (not (is_over (heard b).wave)) (heard b, need.Wait) (finished (heard b) current)).1
    by true = either_on (finished (heard true) current) (heard true) true refl refl (rw staged refl) refl
    by false = either_on (finished (heard false) current) (heard false) false refl refl (rw staged refl) refl

  by_stage : (s : Stage) → run.stage ≡ s → is_staged s run ≡ true → is_asked run.wave k ≡ true → AfterAnswer n k run.wave (answered_in s run k rep mark).0 (answered_in s run k rep mark).1
  by_stage (stage.Fetching from) at fits asked =
      let parts = and_parts (is_only from run.wave.asked) (is_some (lowest (sinks_left run))) fits in
      let same : k ≡ from = only_at from k run.wave.asked parts.0 asked in
      fetch_on (subst (λ (i : ℕ). is_only i run.wave.asked ≡ true) (sym same) parts.0) parts.1
  by_stage (stage.Replacing origin) at fits asked = replace_on origin at
  by_stage (stage.Clearing current) at fits asked = clear_on current at
  by_stage stage.Over at fits asked = absurd (true≢false (sym fits))

pub answers_on : (n k mark : ℕ) (run : CopyRun) (rep : BrickRep) → n ≤ 5 → is_under_way n run ≡ true → is_asked run.wave k ≡ true
    → AfterAnswer n k run.wave (answered run k rep mark).0 (answered run k rep mark).1
answers_on n k mark run rep few way asked =
    let a = and_parts (is_waiting n run.wave) (is_within n (flags_of run.job.held) && is_staged run.stage run) way in
    let b = and_parts (is_within n (flags_of run.job.held)) (is_staged run.stage run) a.1 in
    by_stage n k mark run rep few a.0 b.0 run.stage refl b.1 asked

-- ---- the begin

all_used : (k : ℕ) → k < 5 → flag (used no_outs 5) k ≡ true
all_used zero h = refl
all_used (suc zero) h = refl
all_used (suc (suc zero)) h = refl
all_used (suc (suc (suc zero))) h = refl
all_used (suc (suc (suc (suc zero)))) h = refl
all_used (suc (suc (suc (suc (suc k))))) h = absurd (omega arith)

module _ (n : ℕ) (job : CopyJob) (rows : List SplitRow) (few : n ≤ 5) (work : HasWork n job) where
  holds : (k : ℕ) → k < 5 → names job.held k ≡ true → flag (held_of job no_outs) k ≡ true
  unfolding held_of
  holds k low h = both_have (flags_of job.held) (used no_outs 5) k low (flags_have (names job.held) k low h) (all_used k low)

  is_sink : flag (sinks_of job no_outs) work.sink.replica ≡ true
  unfolding sinks_of
  is_sink = both_have (flags_of job.sinks) (held_of job no_outs) work.sink.replica work.sink.low (flags_have (names job.sinks) work.sink.replica work.sink.low work.sink.named) (holds work.sink.replica work.sink.low work.sink.holds)

  is_source : flag (sources_of job no_outs) work.source.replica ≡ true
  unfolding sources_of
  is_source = both_have (flags_of job.sources) (held_of job no_outs) work.source.replica work.source.low (flags_have (names job.sources) work.source.replica work.source.low work.source.named) (holds work.source.replica work.source.low work.source.holds)

  pub begins : Begins n (next_cell (new_run job rows)).0 (next_cell (new_run job rows)).1
  begins = by (lowest (sinks_left (new_run job rows))) refl where
    some : is_some (lowest (sinks_left (new_run job rows))) ≡ true
    some = lowest_some (sinks_of job no_outs) work.sink.replica work.sink.low is_sink

    from_some : is_some (lowest (sources_left (new_run job rows))) ≡ true
    from_some = lowest_some (sources_of job no_outs) work.source.replica work.source.low is_source

    from : (o : Option ℕ) → lowest (sources_left (new_run job rows)) ≡ o → Begins n (fetching (new_run job rows) work.cell o).0 (fetching (new_run job rows) work.cell o).1
    from None e = absurd (true≢false (sym from_some ∙ ap is_some e))
    from (Some k) e = fetches n (new_run job rows) work.within work.cell k e some

    at : (cells : List Cell) → cells ≡ work.cell ∷ work.rest → Begins n (at_cell (new_run job rows) (slice_get cells 0)).0 (at_cell (new_run job rows) (slice_get cells 0)).1
    at cells e = rw e (from (lowest (sources_left (new_run job rows))) refl)

    by : (o : Option ℕ) → lowest (sinks_left (new_run job rows)) ≡ o → Begins n (cond (is_none o) (finished (new_run job rows) no_flags) (at_cell (new_run job rows) (current_cell (new_run job rows)))).0
        (cond (is_none o) (finished (new_run job rows) no_flags) (at_cell (new_run job rows) (current_cell (new_run job rows)))).1
    by None e = absurd (true≢false (sym some ∙ ap is_some e))
    by (Some k) e = at job.cells work.cells
