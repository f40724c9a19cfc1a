-- Every request of a copy has an encoding.
use Rattle.std.proofs.Common.{◌≡◌, ℕ, Bool, true, false, ◌==◌, not, List, Option, Some, None, refl, ap, subst, arith, if◌then◌else◌}
use Rattle.std.specs.Prelude.{length}
use Rattle.std.proofs.lemmas.Bool.{eqb-true}
use Rattle.fop_types.specs.Bounds.{AreFew, IsCell, IsContent, IsHyper, IsRep, IsReq, IsUnit, content_kind}
use Rattle.fop_types.specs.Rank.{rank}
use Rattle.fop_types.specs.declared.cells.Aspect.{Aspect}
use Rattle.fop_types.specs.declared.cells.Cell.{Cell}
use Rattle.fop_types.specs.declared.contents.Content.{Content}
use Rattle.fop_types.specs.declared.copy_jobs.CopyJob.{CopyJob}
use Rattle.fop_types.specs.declared.messages.BrickRep.{BrickRep}
use Rattle.fop_types.specs.declared.messages.BrickRep.TheVariants as rep
use Rattle.fop_types.specs.declared.messages.BrickReq.TheVariants as req
use Rattle.fop_types.specs.declared.messages.DoneArm.TheVariants as arm
use Rattle.afr_phases.specs.Answers.{content_in}
use Rattle.afr_phases.specs.Flags.{mask_of}
use Rattle.afr_phases.specs.Waves.{is_over}
use Rattle.afr_phases.proofs.Asked.{each_sent}
use Rattle.afr_phases.proofs.Encoded.{mask_small, each_at}
use Rattle.self_heal.specs.declared.run.CopyRun.{CopyRun}
use Rattle.self_heal.specs.declared.stage.CopyNeed.{CopyNeed}
use Rattle.self_heal.specs.declared.stage.CopyNeed.TheVariants as need
use Rattle.self_heal.specs.declared.stage.Origin.{Origin}
use Rattle.self_heal.specs.declared.stage.Stage.{Stage}
use Rattle.self_heal.specs.declared.stage.Stage.TheVariants as stage
use Rattle.self_heal.specs.Runs.{new_run, held_left, sinks_left, cleared, only, finished, clearing, current_cell, next_cell, replacing, aspect_at, fetch_taken, with_origin, replace_taken, clear_taken, answered_in}
use Rattle.self_heal.specs.Turning.{AreEncoded, BeginsAreEncoded, AnswersAreEncoded}
use Rattle.self_heal.proofs.Answering.{content_is}
use Rattle.self_heal.proofs.Branches.{confirmed, lost, next_cases, replacing_cases, replaced_cases, cleared_cases, fetched_cases, taken_cases}

unit_zero : IsUnit 0
unit_zero = omega arith

-- a content that is taken is of the cell's aspect
kind_is : (r : BrickRep) (a : Aspect) (c : Content) (n : ℕ) → content_in r a ≡ Some (c, n) → content_kind c ≡ rank a
kind_is (rep.Done (arm.Content x m)) a c n e = by (content_kind x == rank a) refl e where
  same : ◌≡◌ {A = Option (Content × ℕ)} (Some (x, m)) (Some (c, n)) → x ≡ c
  same h = let p : ◌≡◌ {A = Content × ℕ} (x, m) (c, n) = cc in ap (λ (y : Content × ℕ). y.0) p

  by : (b : Bool) → (content_kind x == rank a) ≡ b → ◌≡◌ {A = Option (Content × ℕ)} (if b then Some (x, m) else None) (Some (c, n)) → content_kind c ≡ rank a
  by true is h = subst (λ (y : Content). content_kind y ≡ rank a) (same h) (eqb-true (content_kind x) (rank a) is)
  by false is h = absurd cc
kind_is (rep.Done arm.Nothing) a c n e = absurd cc
kind_is (rep.Done (arm.Rows rows)) a c n e = absurd cc
kind_is (rep.Done (arm.Cells cells)) a c n e = absurd cc
kind_is rep.Gone a c n e = absurd cc
kind_is rep.Fault a c n e = absurd cc
kind_is rep.Unfit a c n e = absurd cc
kind_is rep.BadFd a c n e = absurd cc

-- and within its bounds
content_fits : (r : BrickRep) (c : Content) (n : ℕ) → r ≡ rep.Done (arm.Content c n) → IsRep true r → IsContent true c × IsHyper n
content_fits r c n is h = subst (IsRep true) is h

-- a turn of a copy of this job
abbrev Coded : CopyJob → CopyRun × CopyNeed → Type 0
Coded job t = AreEncoded t.1 × (t.0.job ≡ job)

module _ (run : CopyRun) (few : AreFew run.job.cells) where
  cell_fits : (cell : Cell) → current_cell run ≡ Some cell → IsCell cell
  cell_fits cell at = each_at IsCell run.job.cells (length run.origins) cell few.2 at

  clear_coded : Coded run.job (clearing run)
  clear_coded =
      (each_sent (λ j r. IsReq true r) (held_left run) (req.Clear run.job.cells (mask_of (cleared run (sinks_left run)))) (λ j f. (few, mask_small (cleared run (sinks_left run)))), refl)

  next_coded : Coded run.job (next_cell run)
  next_coded =
      next_cases (Coded run.job) run (tt, refl) (λ none. clear_coded)
      (λ cell at from low. (each_sent (λ j r. IsReq true r) (only from) (req.Fetch 0 cell) (λ j f. (unit_zero, cell_fits cell at)), refl))

  replace_coded : (content : Content) (origin : Origin) → IsContent true content → IsHyper origin.last → ((cell : Cell) → current_cell run ≡ Some cell → content_kind content ≡ rank cell.aspect)
      → Coded run.job (replacing run (current_cell run) content origin)
  replace_coded content origin fits hyper kind =
      replacing_cases (Coded run.job) run content origin (λ none. clear_coded)
      (λ cell at. (each_sent (λ j r. IsReq true r) (sinks_left run) (req.Replace cell origin.last content) (λ j f. (cell_fits cell at, hyper, kind cell at, fits)), refl))

module _ (k mark : ℕ) (run : CopyRun) (r : BrickRep) (few : AreFew run.job.cells) (fits : IsRep true r) where
  fetch_coded : Coded run.job (fetch_taken run k r mark)
  fetch_coded = fetched_cases run k r mark (Coded run.job) (next_coded (lost run k r mark) few) found where
    found : (content : Content) (last : ℕ) → content_in r (aspect_at (current_cell run)) ≡ Some (content, last)
        → Coded run.job (replacing (confirmed run k) (current_cell run) content (record { source = k; last = last }))
    found content last is =
        let both = content_fits r content last (content_is r (aspect_at (current_cell run)) content last is) fits in
        replace_coded (confirmed run k) few content (record { source = k; last = last }) both.0 both.1
        (λ cell at. subst (λ (o : Option Cell). content_kind content ≡ rank (aspect_at o)) at (kind_is r (aspect_at (current_cell run)) content last is))

  replaced_coded : (origin : Origin) → Coded run.job (replace_taken run k r mark origin)
  replaced_coded origin =
      taken_cases run k r mark (λ (x : CopyRun). Coded run.job (if not (is_over x.wave) then (x, need.Wait) else next_cell (with_origin x origin)))
      (λ e. replaced_cases (Coded run.job) (confirmed run k) origin (λ w. (tt, refl)) (λ o. next_coded (with_origin (confirmed run k) origin) few))
      (λ e. replaced_cases (Coded run.job) (lost run k r mark) origin (λ w. (tt, refl)) (λ o. next_coded (with_origin (lost run k r mark) origin) few))

  cleared_coded : (current : List Bool) → Coded run.job (clear_taken run k r mark current)
  cleared_coded current =
      taken_cases run k r mark (λ (x : CopyRun). Coded run.job (if not (is_over x.wave) then (x, need.Wait) else finished x current))
      (λ e. cleared_cases (Coded run.job) (confirmed run k) current (λ w. (tt, refl)) (λ o. (tt, refl)))
      (λ e. cleared_cases (Coded run.job) (lost run k r mark) current (λ w. (tt, refl)) (λ o. (tt, refl)))

  by_stage : (s : Stage) → Coded run.job (answered_in s run k r mark)
  by_stage (stage.Fetching from) = fetch_coded
  by_stage (stage.Replacing origin) = replaced_coded origin
  by_stage (stage.Clearing current) = cleared_coded current
  by_stage stage.Over = (tt, refl)

pub begin_encoded : BeginsAreEncoded
begin_encoded job rows few = next_coded (new_run job rows) few

pub answer_encoded : AnswersAreEncoded
answer_encoded k mark run r few fits = by_stage k mark run r few fits run.stage
