-- Each answer leaves less work.
use Rattle.std.proofs.Common.{◌≡◌, ℕ, ◌+◌, ◌-◌, ◌*◌, ◌<◌, ◌≤◌, Bool, true, false, not, ◌&&◌, ◌||◌, ◌⊎◌, inl, inr, List, [], ◌∷◌, ◌++◌, Some, None, refl, sym, subst, length, arith, if◌then◌else◌}
use Rattle.std.proofs.lemmas.Bool.{or_cases, true≢false}
use Rattle.std.proofs.lemmas.Option.{slice_get_within}
use Rattle.fop_types.specs.declared.answers.SplitRow.{SplitRow}
use Rattle.fop_types.specs.declared.cells.Cell.{Cell}
use Rattle.fop_types.specs.declared.contents.Content.{Content}
use Rattle.fop_types.specs.declared.copy_jobs.CopyJob.{CopyJob}
use Rattle.fop_types.specs.declared.messages.BrickRep.{BrickRep}
use Rattle.fop_types.specs.declared.messages.BrickReq.TheVariants as req
use Rattle.afr_phases.specs.declared.outs.Outs.{Outs}
use Rattle.afr_phases.specs.Answers.{is_fault, content_in}
use Rattle.afr_phases.specs.Flags.{flag, flags_of, lowest, no_flags}
use Rattle.afr_phases.specs.Outs.{left, used}
use Rattle.afr_phases.specs.Waves.{taken, is_asked, is_over}
use Rattle.afr_phases.specs.declared.wave.Wave.{Wave}
use Rattle.self_heal.specs.declared.run.CopyRun.{CopyRun}
use Rattle.self_heal.specs.declared.stage.CopyNeed.{CopyNeed}
use Rattle.self_heal.specs.declared.stage.CopyNeed.TheVariants as need
use Rattle.self_heal.specs.declared.stage.Origin.{Origin}
use Rattle.self_heal.specs.declared.stage.Stage.{Stage}
use Rattle.self_heal.specs.declared.stage.Stage.TheVariants as stage
use Rattle.self_heal.specs.Runs.{new_run, held_of, sources_of, sinks_of, sources_left, only, asking, finished, clearing, current_cell, next_cell, replacing, aspect_at, with_origin, answered_in}
use Rattle.self_heal.specs.Handed.{Handed, after, AreAnswers}
use Rattle.self_heal.specs.Work.{count, cells_left, may_ask, work}
use Rattle.self_heal.specs.Laws.{most, IsOpen, EachAnswerLeavesLess, WaitsAreOpen}
use Rattle.self_heal.proofs.Branches.{confirmed, lost, next_cases, replacing_cases, replaced_cases, cleared_cases, fetched_cases, taken_cases}
use Rattle.self_heal.proofs.Leaving.{five_stay, sources_before, source_gone, source_low}
use Rattle.self_heal.proofs.Truths.{flags_at, only_at, lowest_is, count_below, count_less, count_some, count_five, count_taken, count_only}

length_push : (xs : List Origin) (x : Origin) → length (xs ++ x ∷ []) ≡ length xs + 1
length_push [] x = refl
length_push (y ∷ ys) x = omega (arith, length_push ys x)

not_true : (b : Bool) → (b ≡ true → ⊥) → b ≡ false
not_true true h = absurd (h refl)
not_true false h = refl

some_asked : (w : Wave) → is_over w ≡ false → (k : ℕ) × (is_asked w k ≡ true)
some_asked w over = first (or_cases (flag w.asked 0) _ (was_not _ over)) where
  was_not : (b : Bool) → not b ≡ false → b ≡ true
  was_not true h = refl
  was_not false h = absurd (true≢false h)

  last : (flag w.asked 3 ≡ true) ⊎ (flag w.asked 4 ≡ true) → (k : ℕ) × (is_asked w k ≡ true)
  last (inl h) = (3, h)
  last (inr h) = (4, h)

  third : (flag w.asked 2 ≡ true) ⊎ ((flag w.asked 3 || flag w.asked 4) ≡ true) → (k : ℕ) × (is_asked w k ≡ true)
  third (inl h) = (2, h)
  third (inr h) = last (or_cases (flag w.asked 3) (flag w.asked 4) h)

  second : (flag w.asked 1 ≡ true) ⊎ ((flag w.asked 2 || (flag w.asked 3 || flag w.asked 4)) ≡ true) → (k : ℕ) × (is_asked w k ≡ true)
  second (inl h) = (1, h)
  second (inr h) = third (or_cases (flag w.asked 2) _ h)

  first : (flag w.asked 0 ≡ true) ⊎ ((flag w.asked 1 || (flag w.asked 2 || (flag w.asked 3 || flag w.asked 4))) ≡ true) → (k : ℕ) × (is_asked w k ≡ true)
  first (inl h) = (0, h)
  first (inr h) = second (or_cases (flag w.asked 1) _ h)

module _ (job : CopyJob) (outs : Outs) where
  held_few : count (held_of job outs) ≤ 5
  unfolding held_of
  held_few = count_five (λ k. flag (flags_of job.held) k && flag (used outs 5) k)

  sources_few : count (sources_of job outs) ≤ 5
  unfolding sources_of
  sources_few = count_five (λ k. flag (flags_of job.sources) k && flag (held_of job outs) k)

  sinks_few : count (sinks_of job outs) ≤ 5
  unfolding sinks_of
  sinks_few = count_five (λ k. flag (flags_of job.sinks) k && flag (held_of job outs) k)

-- ---- what every copy keeps

-- who is asked for a content is a source that is not out, and after the end nobody is asked
abbrev FitsStage : CopyRun → Stage → Type 0
FitsStage run (stage.Fetching from) = (run.wave.asked ≡ only from) × (flag (sources_left run) from ≡ true) × ((cell : Cell) × (current_cell run ≡ Some cell))
FitsStage run (stage.Replacing origin) = Unit {0}
FitsStage run (stage.Clearing current) = Unit {0}
FitsStage run stage.Over = run.wave.asked ≡ no_flags

abbrev Lowers : ℕ → CopyRun × CopyNeed → Type 0
Lowers b r = (length r.0.outs.at ≡ 5) × FitsStage r.0 r.0.stage × (work r.0 ≤ b) × IsOpen r.0 r.1

next_lowers : (run : CopyRun) (b : ℕ) → length run.outs.at ≡ 5 → 6 * cells_left run + count (sources_left run) + 5 ≤ b → Lowers b (next_cell run)
next_lowers run b five few = next_cases (Lowers b) run (five, refl, omega arith, refl) clears fetches where
  clears : current_cell run ≡ None → Lowers b (clearing run)
  clears e = (five, tt, omega (arith, held_few run.job run.outs), tt)

  fetches : (cell : Cell) → current_cell run ≡ Some cell → (from : ℕ) → lowest (sources_left run) ≡ Some from → Lowers b (asking run (only from) (req.Fetch 0 cell) (stage.Fetching from))
  fetches cell at from low = (five, (refl, lowest_is (sources_left run) from low, (cell, at)), omega (arith, count_only from), tt)

module _ (run : CopyRun) (k : ℕ) (rep : BrickRep) (mark : ℕ) (b : ℕ) (five : length run.outs.at ≡ 5) (asked : flag run.wave.asked k ≡ true) where
  fewer : count (sources_left (lost run k rep mark)) ≤ count (sources_left run)
  fewer = count_below _ _ (sources_before run.job run.outs k (is_fault rep) mark)

  five_after : length (left run.outs k (is_fault rep) mark).at ≡ 5
  five_after = five_stay run.outs k (is_fault rep) mark five

  -- an answer to a fetch
  module _ (from : ℕ) (fits : FitsStage run (stage.Fetching from)) (few : count run.wave.asked + (6 * cells_left run + count (sources_left run) + 4) ≤ b + 1) where
    is_source : flag (sources_left run) k ≡ true
    is_source = subst (λ (j : ℕ). flag (sources_left run) j ≡ true) (sym (only_at from k (subst (λ (xs : List Bool). flag xs k ≡ true) fits.0 asked))) fits.1

    low : k < length run.outs.at
    low = let small = source_low run.job run.outs k is_source in omega arith

    one_less : count (sources_left (lost run k rep mark)) + 1 ≤ count (sources_left run)
    one_less = count_less _ _ (sources_before run.job run.outs k (is_fault rep) mark) k is_source (not_true _ (source_gone run.job run.outs k (is_fault rep) mark low))

    fetch_lowers : Lowers b (answered_in (stage.Fetching from) run k rep mark)
    fetch_lowers = fetched_cases run k rep mark (Lowers b) loses finds where
      loses : Lowers b (next_cell (lost run k rep mark))
      loses = next_lowers (lost run k rep mark) b five_after (omega (arith, one_less, count_taken run.wave.asked k asked))

      finds : (content : Content) (last : ℕ) → content_in rep (aspect_at (current_cell run)) ≡ Some (content, last) →
          Lowers b (replacing (confirmed run k) (current_cell run) content (record { source = k; last = last }))
      finds content last e =
          replacing_cases (Lowers b) (confirmed run k) content (record { source = k; last = last })
          (λ none. let found = fits.2.1 in absurd cc)
          (λ cell at. let within = slice_get_within run.job.cells (length run.origins) cell at in
          (five, tt, omega (arith, within, sinks_few run.job run.outs, count_some run.wave.asked k asked), tt))

  -- an answer to a replacement or a clear, after which these are asked and out
  module _ (w : Wave) (o : Outs) (one : count w.asked + 1 ≡ count run.wave.asked) (o_five : length o.at ≡ 5) (o_few : count (sources_of run.job o) ≤ count (sources_left run)) where
    replaced_lowers : (origin : Origin) → run.stage ≡ stage.Replacing origin → count run.wave.asked + (6 * (cells_left run - 1) + count (sources_left run) + 5) ≤ b + 1 →
        Lowers b (if not (is_over w) then (record run { wave = w; outs = o }, need.Wait) else next_cell (with_origin (record run { wave = w; outs = o }) origin))
    replaced_lowers origin e few = replaced_cases (Lowers b) (record run { wave = w; outs = o }) origin waits (λ over. goes) where
      waits : is_over w ≡ false → Lowers b (record run { wave = w; outs = o }, need.Wait)
      waits over =
          let later = subst (λ (s : Stage). FitsStage (record run { wave = w; outs = o }) s × (count w.asked + may_ask s (cells_left run) (count (sources_of run.job o)) ≤ b)) (sym e) (tt, omega arith) in
          (o_five, later.0, later.1, some_asked w over)

      goes : Lowers b (next_cell (with_origin (record run { wave = w; outs = o }) origin))
      goes = next_lowers (with_origin (record run { wave = w; outs = o }) origin) b o_five (omega (arith, length_push run.origins origin))

    cleared_lowers : (current : List Bool) → run.stage ≡ stage.Clearing current → count run.wave.asked + 0 ≤ b + 1 →
        Lowers b (if not (is_over w) then (record run { wave = w; outs = o }, need.Wait) else finished (record run { wave = w; outs = o }) current)
    cleared_lowers current e few = cleared_cases (Lowers b) (record run { wave = w; outs = o }) current waits (λ over. (o_five, refl, omega arith, refl)) where
      waits : is_over w ≡ false → Lowers b (record run { wave = w; outs = o }, need.Wait)
      waits over =
          let later = subst (λ (s : Stage). FitsStage (record run { wave = w; outs = o }) s × (count w.asked + may_ask s (cells_left run) (count (sources_of run.job o)) ≤ b)) (sym e) (tt, omega arith) in
          (o_five, later.0, later.1, some_asked w over)

  by_stage : (s : Stage) → run.stage ≡ s → FitsStage run s → count run.wave.asked + may_ask s (cells_left run) (count (sources_left run)) ≤ b + 1 → Lowers b (answered_in s run k rep mark)
  by_stage (stage.Fetching from) e fits few = fetch_lowers from fits few
  by_stage (stage.Replacing origin) e fits few =
      taken_cases run k rep mark (λ x. Lowers b (if not (is_over x.wave) then (x, need.Wait) else next_cell (with_origin x origin)))
      (λ p. replaced_lowers (taken run.wave k true) run.outs (count_taken run.wave.asked k asked) five (omega arith) origin e few)
      (λ p. replaced_lowers (taken run.wave k false) (left run.outs k (is_fault rep) mark) (count_taken run.wave.asked k asked) five_after fewer origin e few)
  by_stage (stage.Clearing current) e fits few =
      taken_cases run k rep mark (λ x. Lowers b (if not (is_over x.wave) then (x, need.Wait) else finished x current))
      (λ p. cleared_lowers (taken run.wave k true) run.outs (count_taken run.wave.asked k asked) five (omega arith) current e few)
      (λ p. cleared_lowers (taken run.wave k false) (left run.outs k (is_fault rep) mark) (count_taken run.wave.asked k asked) five_after fewer current e few)
  by_stage stage.Over e fits few = absurd (true≢false (sym (flags_at (λ j. false) k (subst (λ (xs : List Bool). flag xs k ≡ true) fits asked))))

-- ---- over all answers

lasts : (job : CopyJob) (rows : List SplitRow) (hs : List Handed) → AreAnswers job rows hs → Lowers (work (after job rows hs).0) (after job rows hs) × (work (after job rows hs).0 + length hs ≤ most job)
lasts job rows [] answers =
    let start = next_lowers (new_run job rows) (most job) refl (omega (arith, sources_few job (new_run job rows).outs)) in
    ((start.0, start.1, omega arith, start.3), omega (arith, start.2))
lasts job rows (h ∷ hs) answers =
    let before = lasts job rows hs answers.0 in
    let run = (after job rows hs).0 in
    let asks = count_some run.wave.asked h.replica answers.1 in
    let turn = by_stage run h.replica h.rep h.mark (work run - 1) before.0.0 answers.1 run.stage refl before.0.1 (omega (arith, asks)) in
    ((turn.0, turn.1, omega arith, turn.3), omega (arith, asks, turn.2, before.1))

pub each_answer_leaves_less : EachAnswerLeavesLess
each_answer_leaves_less job rows hs answers = (lasts job rows hs answers).1

pub waits_are_open : WaitsAreOpen
waits_are_open job rows hs answers = (lasts job rows hs answers).0.3
