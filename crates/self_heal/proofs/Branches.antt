-- What a copy does next, and what an answer makes of it, case by case: what holds in each case holds of the step.
use Rattle.std.proofs.Common.{◌≡◌, ℕ, Bool, true, false, not, is_none, List, Option, Some, None, refl, if◌then◌else◌}
use Rattle.fop_types.specs.declared.cells.Cell.{Cell}
use Rattle.fop_types.specs.declared.contents.Content.{Content}
use Rattle.fop_types.specs.declared.messages.BrickRep.{BrickRep}
use Rattle.fop_types.specs.declared.messages.BrickReq.TheVariants as req
use Rattle.afr_phases.specs.Answers.{is_fault, is_plain_done, content_in}
use Rattle.afr_phases.specs.Flags.{lowest, no_flags}
use Rattle.afr_phases.specs.Outs.{left}
use Rattle.afr_phases.specs.Waves.{taken, is_over}
use Rattle.self_heal.specs.declared.run.CopyRun.{CopyRun}
use Rattle.self_heal.specs.declared.stage.CopyNeed.{CopyNeed}
use Rattle.self_heal.specs.declared.stage.CopyNeed.TheVariants as need
use Rattle.self_heal.specs.declared.stage.Origin.{Origin}
use Rattle.self_heal.specs.declared.stage.Stage.TheVariants as stage
use Rattle.self_heal.specs.Runs.{sources_left, sinks_left, only, asking, finished, fetching, fetch_at, clearing, at_cell, current_cell, next_cell, replacing, aspect_at, fetched, fetch_taken, wave_taken, with_origin}

-- the copy after an answer that confirms, and after one that does not
abbrev pub confirmed : CopyRun → ℕ → CopyRun
confirmed run k = record run { wave = taken run.wave k true }

abbrev pub lost : CopyRun → ℕ → BrickRep → ℕ → CopyRun
lost run k rep mark = record run { wave = taken run.wave k false; outs = left run.outs k (is_fault rep) mark }

module _ (P : CopyRun × CopyNeed → Type 0) (run : CopyRun) where
  fetch_cases : (cell : Cell) → P (finished run no_flags) → ((from : ℕ) → lowest (sources_left run) ≡ Some from → P (asking run (only from) (req.Fetch 0 cell) (stage.Fetching from))) → P (fetch_at run cell)
  fetch_cases cell ends asks = by (lowest (sources_left run)) refl where
    by : (o : Option ℕ) → lowest (sources_left run) ≡ o → P (fetching run cell o)
    by None e = ends
    by (Some from) e = asks from e

  pub next_cases : P (finished run no_flags) → (current_cell run ≡ None → P (clearing run)) →
      ((cell : Cell) → current_cell run ≡ Some cell → (from : ℕ) → lowest (sources_left run) ≡ Some from → P (asking run (only from) (req.Fetch 0 cell) (stage.Fetching from))) →
      P (next_cell run)
  next_cases ends clears asks = by (is_none (lowest (sinks_left run))) where
    at : (o : Option Cell) → current_cell run ≡ o → P (at_cell run o)
    at None e = clears e
    at (Some cell) e = fetch_cases cell ends (asks cell e)

    by : (b : Bool) → P (if b then finished run no_flags else at_cell run (current_cell run))
    by true = ends
    by false = at (current_cell run) refl

  pub replacing_cases : (content : Content) (origin : Origin) → (current_cell run ≡ None → P (clearing run)) →
      ((cell : Cell) → current_cell run ≡ Some cell → P (asking run (sinks_left run) (req.Replace cell origin.last content) (stage.Replacing origin))) →
      P (replacing run (current_cell run) content origin)
  replacing_cases content origin clears asks = by (current_cell run) refl where
    by : (o : Option Cell) → current_cell run ≡ o → P (replacing run o content origin)
    by None e = clears e
    by (Some cell) e = asks cell e

  -- where everybody has answered a replacement, or the clear
  pub replaced_cases : (origin : Origin) → (is_over run.wave ≡ false → P (run, need.Wait)) → (is_over run.wave ≡ true → P (next_cell (with_origin run origin))) →
      P (if not (is_over run.wave) then (run, need.Wait) else next_cell (with_origin run origin))
  replaced_cases origin waits goes = by (is_over run.wave) refl where
    by : (b : Bool) → is_over run.wave ≡ b → P (if not b then (run, need.Wait) else next_cell (with_origin run origin))
    by true e = goes e
    by false e = waits e

  pub cleared_cases : (current : List Bool) → (is_over run.wave ≡ false → P (run, need.Wait)) → (is_over run.wave ≡ true → P (finished run current)) →
      P (if not (is_over run.wave) then (run, need.Wait) else finished run current)
  cleared_cases current waits ends = by (is_over run.wave) refl where
    by : (b : Bool) → is_over run.wave ≡ b → P (if not b then (run, need.Wait) else finished run current)
    by true e = ends e
    by false e = waits e

module _ (run : CopyRun) (k : ℕ) (rep : BrickRep) (mark : ℕ) where
  pub fetched_cases : (P : CopyRun × CopyNeed → Type 0) → P (next_cell (lost run k rep mark)) →
      ((content : Content) (last : ℕ) → content_in rep (aspect_at (current_cell run)) ≡ Some (content, last) →
      P (replacing (confirmed run k) (current_cell run) content (record { source = k; last = last }))) →
      P (fetch_taken run k rep mark)
  fetched_cases P loses finds = by (content_in rep (aspect_at (current_cell run))) refl where
    by : (o : Option (Content × ℕ)) → content_in rep (aspect_at (current_cell run)) ≡ o → P (fetched run k (is_fault rep) mark o)
    by None e = loses
    by (Some x) e = finds x.0 x.1 e

  pub taken_cases : (Q : CopyRun → Type 0) → (is_plain_done rep ≡ true → Q (confirmed run k)) → (is_plain_done rep ≡ false → Q (lost run k rep mark)) → Q (wave_taken run k rep mark)
  taken_cases Q confirms loses = by (is_plain_done rep) refl where
    by : (b : Bool) → is_plain_done rep ≡ b → Q (if b then confirmed run k else lost run k rep mark)
    by true e = confirms e
    by false e = loses e
