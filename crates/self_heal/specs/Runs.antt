-- A copy, step by step. Content and last are fetched cell by cell from the lowest source that is still used, and
-- replaced on every sink that is still used. After the last cell one clear goes to all whose lock is still held: it
-- names all sources and the sinks that confirmed every cell. Without a sink, or without a source for a cell, the copy
-- ends before the clear.
use Rattle.std.specs.Prelude.{ℕ, ◌==◌, Bool, true, false, ◌||◌, not, List, [], ◌∷◌, ◌++◌, Option, Some, None, is_none, length, slice_get, if◌then◌else◌}
use Rattle.fop_types.specs.declared.answers.SplitRow.{SplitRow}
use Rattle.fop_types.specs.declared.cells.Aspect.{Aspect}
use Rattle.fop_types.specs.declared.cells.Aspect.TheVariants as aspect
use Rattle.fop_types.specs.declared.cells.Cell.{Cell}
use Rattle.fop_types.specs.declared.contents.Content.{Content}
use Rattle.fop_types.specs.declared.copy_jobs.CopyJob.{CopyJob}
use Rattle.fop_types.specs.declared.messages.BrickRep.{BrickRep}
use Rattle.fop_types.specs.declared.messages.BrickReq.{BrickReq}
use Rattle.fop_types.specs.declared.messages.BrickReq.TheVariants as req
use Rattle.afr_phases.specs.declared.outs.Outs.{Outs}
use Rattle.afr_phases.specs.Flags.{flag, flags_by, flags_of, mask_of, both, lowest, no_flags}
use Rattle.afr_phases.specs.Outs.{no_outs, left, used, outs_listed}
use Rattle.afr_phases.specs.Waves.{quiet, sent_to, taken, is_over}
use Rattle.afr_phases.specs.Sending.{sends}
use Rattle.afr_phases.specs.Answers.{is_fault, is_plain_done, content_in}
use Rattle.self_heal.specs.Records.{records_from}
use Rattle.self_heal.specs.declared.run.CopyRun.{CopyRun}
use Rattle.self_heal.specs.declared.stage.CopyNeed.{CopyNeed}
use Rattle.self_heal.specs.declared.stage.CopyNeed.TheVariants as need
use Rattle.self_heal.specs.declared.stage.Origin.{Origin}
use Rattle.self_heal.specs.declared.stage.Stage.{Stage}
use Rattle.self_heal.specs.declared.stage.Stage.TheVariants as stage

abbrev pub new_run : CopyJob → List SplitRow → CopyRun
new_run job rows = record { job = job; rows = rows; outs = no_outs; wave = quiet; origins = []; stage = stage.Over }

-- ---- who is left

-- the replicas whose lock is still held, and of these the sources and the sinks
unfoldable pub held_of : CopyJob → Outs → List Bool
held_of job outs = both (flags_of job.held) (used outs 5)

unfoldable pub sources_of : CopyJob → Outs → List Bool
sources_of job outs = both (flags_of job.sources) (held_of job outs)

unfoldable pub sinks_of : CopyJob → Outs → List Bool
sinks_of job outs = both (flags_of job.sinks) (held_of job outs)

abbrev pub held_left : CopyRun → List Bool
held_left run = held_of run.job run.outs

abbrev pub sources_left : CopyRun → List Bool
sources_left run = sources_of run.job run.outs

abbrev pub sinks_left : CopyRun → List Bool
sinks_left run = sinks_of run.job run.outs

-- whom nobody is to accuse any more: all sources, also those that are out, and the sinks that have every cell
unfoldable pub cleared_of : CopyJob → List Bool → List Bool
cleared_of job current = flags_by (λ k. flag (flags_of job.sources) k || flag current k)

abbrev pub cleared : CopyRun → List Bool → List Bool
cleared run current = cleared_of run.job current

-- ---- steps

abbrev pub only : ℕ → List Bool
only k = flags_by (λ j. k == j)

-- one request goes to some replicas
abbrev pub asking : CopyRun → List Bool → BrickReq → Stage → CopyRun × CopyNeed
asking run to req stage = (record run { wave = sent_to to; stage = stage }, need.Send (sends to req))

-- the copy ends, and nobody is asked any more; `current` are the sinks that have every cell
abbrev pub finished : CopyRun → List Bool → CopyRun × CopyNeed
finished run current = (
  record run { wave = quiet; stage = stage.Over },
  need.Done (record {
    held = mask_of (held_left run);
    current = mask_of current;
    outs = outs_listed run.outs.at;
    records = records_from run.rows run.origins current 0 run.job.cells;
  }),
)

-- a cell is fetched from the lowest source that is still used
abbrev pub fetching : CopyRun → Cell → Option ℕ → CopyRun × CopyNeed
fetching run cell None = finished run no_flags
fetching run cell (Some from) = asking run (only from) (req.Fetch 0 cell) (stage.Fetching from)

abbrev pub fetch_at : CopyRun → Cell → CopyRun × CopyNeed
fetch_at run cell = fetching run cell (lowest (sources_left run))

-- the clear
abbrev pub clearing : CopyRun → CopyRun × CopyNeed
clearing run = asking run (held_left run) (req.Clear run.job.cells (mask_of (cleared run (sinks_left run)))) (stage.Clearing (sinks_left run))

abbrev pub at_cell : CopyRun → Option Cell → CopyRun × CopyNeed
at_cell run None = clearing run
at_cell run (Some cell) = fetch_at run cell

-- the next cell to be copied: as many as have an origin were copied before it
abbrev pub current_cell : CopyRun → Option Cell
current_cell run = slice_get run.job.cells (length run.origins)

-- the next cell, or the clear after the last one; without a sink the copy ends
abbrev pub next_cell : CopyRun → CopyRun × CopyNeed
next_cell run = if is_none (lowest (sinks_left run)) then finished run no_flags else at_cell run (current_cell run)

-- the content goes to the sinks that are still used
abbrev pub replacing : CopyRun → Option Cell → Content → Origin → CopyRun × CopyNeed
replacing run None content origin = clearing run
replacing run (Some cell) content origin = asking run (sinks_left run) (req.Replace cell origin.last content) (stage.Replacing origin)

-- ---- answers

abbrev pub aspect_at : Option Cell → Aspect
aspect_at None = aspect.Data
aspect_at (Some cell) = cell.aspect

-- a source answers with the content, or is out
abbrev pub fetched : CopyRun → ℕ → Bool → ℕ → Option (Content × ℕ) → CopyRun × CopyNeed
fetched run k fault mark None = next_cell (record run { wave = taken run.wave k false; outs = left run.outs k fault mark })
fetched run k fault mark (Some content) =
    replacing (record run { wave = taken run.wave k true }) (current_cell run) content.0 (record { source = k; last = content.1 })

abbrev pub fetch_taken : CopyRun → ℕ → BrickRep → ℕ → CopyRun × CopyNeed
fetch_taken run k rep mark = fetched run k (is_fault rep) mark (content_in rep (aspect_at (current_cell run)))

-- a replica confirms, or is out
abbrev pub wave_taken : CopyRun → ℕ → BrickRep → ℕ → CopyRun
wave_taken run k rep mark =
    if is_plain_done rep then record run { wave = taken run.wave k true }
    else record run { wave = taken run.wave k false; outs = left run.outs k (is_fault rep) mark }

abbrev pub with_origin : CopyRun → Origin → CopyRun
with_origin run origin = record run { origins = run.origins ++ origin ∷ [] }

-- the cell is copied once every sink has answered
abbrev pub replace_taken : CopyRun → ℕ → BrickRep → ℕ → Origin → CopyRun × CopyNeed
replace_taken run k rep mark origin =
    let after = wave_taken run k rep mark in
    if not (is_over after.wave) then (after, need.Wait) else next_cell (with_origin after origin)

-- the copy is done once everybody has answered the clear
abbrev pub clear_taken : CopyRun → ℕ → BrickRep → ℕ → List Bool → CopyRun × CopyNeed
clear_taken run k rep mark current =
    let after = wave_taken run k rep mark in
    if not (is_over after.wave) then (after, need.Wait) else finished after current

abbrev pub answered_in : Stage → CopyRun → ℕ → BrickRep → ℕ → CopyRun × CopyNeed
answered_in (stage.Fetching from) run k rep mark = fetch_taken run k rep mark
answered_in (stage.Replacing origin) run k rep mark = replace_taken run k rep mark origin
answered_in (stage.Clearing current) run k rep mark = clear_taken run k rep mark current
answered_in stage.Over run k rep mark = (run, need.Wait)

-- what the answer of a replica makes of a copy, and what it needs next
abbrev pub answered : CopyRun → ℕ → BrickRep → ℕ → CopyRun × CopyNeed
answered run k rep mark = answered_in run.stage run k rep mark
