-- Each request of a copy is of its job, whatever is handed in.
use Rattle.std.proofs.Common.{◌≡◌, ℕ, Bool, true, not, List, [], ◌∷◌, Some, refl, sym, subst, ◌∙◌, length, if◌then◌else◌}
use Rattle.fop_types.specs.Bounds.{Each}
use Rattle.fop_types.specs.declared.answers.SplitRow.{SplitRow}
use Rattle.fop_types.specs.declared.cells.Cell.{Cell}
use Rattle.fop_types.specs.declared.contents.Content.{Content}
use Rattle.fop_types.specs.declared.copy_jobs.CopyJob.{CopyJob}
use Rattle.fop_types.specs.declared.messages.BrickRep.{BrickRep}
use Rattle.fop_types.specs.declared.messages.BrickReq.{BrickReq}
use Rattle.fop_types.specs.declared.messages.BrickReq.TheVariants as req
use Rattle.afr_phases.specs.declared.outs.Outs.{Outs}
use Rattle.afr_phases.specs.Flags.{flag, flags_of, names, lowest, no_flags}
use Rattle.afr_phases.specs.Outs.{used}
use Rattle.afr_phases.specs.Waves.{is_over}
use Rattle.self_heal.specs.declared.run.CopyRun.{CopyRun}
use Rattle.self_heal.specs.declared.stage.CopyNeed.{CopyNeed}
use Rattle.self_heal.specs.declared.stage.CopyNeed.TheVariants as need
use Rattle.self_heal.specs.declared.stage.Origin.{Origin}
use Rattle.self_heal.specs.declared.stage.Stage.{Stage}
use Rattle.self_heal.specs.declared.stage.Stage.TheVariants as stage
use Rattle.self_heal.specs.Runs.{new_run, held_of, sources_of, sinks_of, held_left, sources_left, sinks_left, only, asking, finished, clearing, current_cell, next_cell, with_origin, answered_in}
use Rattle.self_heal.specs.Handed.{Handed, after, given}
use Rattle.self_heal.specs.Laws.{IsOfJob, RequestsGoToTheJob}
use Rattle.self_heal.proofs.Branches.{confirmed, lost, next_cases, replacing_cases, replaced_cases, cleared_cases, fetched_cases, taken_cases}
use Rattle.self_heal.proofs.Truths.{flags_at, both_left, both_right, only_at, lowest_is, each_sent}

module _ (job : CopyJob) (outs : Outs) (k : ℕ) where
  held : flag (held_of job outs) k ≡ true → names job.held k ≡ true
  unfolding held_of
  held h = flags_at (names job.held) k (both_left (flags_of job.held) (used outs 5) k h)

  source : flag (sources_of job outs) k ≡ true → (names job.sources k ≡ true) × (names job.held k ≡ true)
  unfolding sources_of
  source h = (flags_at (names job.sources) k (both_left (flags_of job.sources) (held_of job outs) k h), held (both_right (flags_of job.sources) (held_of job outs) k h))

  sink : flag (sinks_of job outs) k ≡ true → (names job.sinks k ≡ true) × (names job.held k ≡ true)
  unfolding sinks_of
  sink h = (flags_at (names job.sinks) k (both_left (flags_of job.sinks) (held_of job outs) k h), held (both_right (flags_of job.sinks) (held_of job outs) k h))

-- what comes of a copy has its job, and asks for what is of it
abbrev IsStep : CopyRun → CopyRun × CopyNeed → Type 0
IsStep run r = (r.0.job ≡ run.job) × Each (λ (x : ℕ × BrickReq). IsOfJob run.job x.0 x.1) (given r.1)

module _ (run : CopyRun) where
  fetch : (cell : Cell) → current_cell run ≡ Some cell → (from : ℕ) → lowest (sources_left run) ≡ Some from → IsStep run (asking run (only from) (req.Fetch 0 cell) (stage.Fetching from))
  fetch cell at from low = (refl, each_sent (IsOfJob run.job) (only from) (req.Fetch 0 cell) of_source) where
    of_source : (k : ℕ) → flag (only from) k ≡ true → IsOfJob run.job k (req.Fetch 0 cell)
    of_source k h =
        let s = source run.job run.outs k (subst (λ (j : ℕ). flag (sources_left run) j ≡ true) (sym (only_at from k h)) (lowest_is (sources_left run) from low)) in
        (refl, s.0, s.1, (length run.origins, at))

  clear : IsStep run (clearing run)
  clear = (refl, each_sent (IsOfJob run.job) (held_left run) _ (λ k h. (refl, held run.job run.outs k h)))

  replace : (content : Content) (origin : Origin) (cell : Cell) → current_cell run ≡ Some cell → IsStep run (asking run (sinks_left run) (req.Replace cell origin.last content) (stage.Replacing origin))
  replace content origin cell at = (refl, each_sent (IsOfJob run.job) (sinks_left run) (req.Replace cell origin.last content) (λ k h. let s = sink run.job run.outs k h in (s.0, s.1, (length run.origins, at))))

  nothing : (current : List Bool) → IsStep run (finished run current)
  nothing current = (refl, tt)

  waits : IsStep run (run, need.Wait)
  waits = (refl, tt)

  next : IsStep run (next_cell run)
  next = next_cases (IsStep run) run (nothing no_flags) (λ e. clear) fetch

module _ (run : CopyRun) (k : ℕ) (rep : BrickRep) (mark : ℕ) where
  by_stage : (s : Stage) → IsStep run (answered_in s run k rep mark)
  by_stage (stage.Fetching from) =
      fetched_cases run k rep mark (IsStep run) (next (lost run k rep mark))
      (λ content last e. replacing_cases (IsStep run) (confirmed run k) content (record { source = k; last = last }) (λ n. clear (confirmed run k)) (replace (confirmed run k) content (record { source = k; last = last })))
  by_stage (stage.Replacing origin) =
      taken_cases run k rep mark (λ x. IsStep run (if not (is_over x.wave) then (x, need.Wait) else next_cell (with_origin x origin)))
      (λ p. replaced_cases (IsStep run) (confirmed run k) origin (λ o. waits (confirmed run k)) (λ o. next (with_origin (confirmed run k) origin)))
      (λ p. replaced_cases (IsStep run) (lost run k rep mark) origin (λ o. waits (lost run k rep mark)) (λ o. next (with_origin (lost run k rep mark) origin)))
  by_stage (stage.Clearing current) =
      taken_cases run k rep mark (λ x. IsStep run (if not (is_over x.wave) then (x, need.Wait) else finished x current))
      (λ p. cleared_cases (IsStep run) (confirmed run k) current (λ o. waits (confirmed run k)) (λ o. nothing (confirmed run k) current))
      (λ p. cleared_cases (IsStep run) (lost run k rep mark) current (λ o. waits (lost run k rep mark)) (λ o. nothing (lost run k rep mark) current))
  by_stage stage.Over = (refl, tt)

pub job_stays : (job : CopyJob) (rows : List SplitRow) (hs : List Handed) → (after job rows hs).0.job ≡ job
job_stays job rows [] = (next (new_run job rows)).0
job_stays job rows (h ∷ hs) = (by_stage (after job rows hs).0 h.replica h.rep h.mark (after job rows hs).0.stage).0 ∙ job_stays job rows hs

pub requests_go_to_the_job : RequestsGoToTheJob
requests_go_to_the_job job rows [] = (next (new_run job rows)).1
requests_go_to_the_job job rows (h ∷ hs) =
    subst (λ (j : CopyJob). Each (λ (x : ℕ × BrickReq). IsOfJob j x.0 x.1) (given (after job rows (h ∷ hs)).1)) (job_stays job rows hs)
    (by_stage (after job rows hs).0 h.replica h.rep h.mark (after job rows hs).0.stage).1
