-- A copy that has something to do: there is a cell, and a sink and a source whose locks are held.
use Rattle.std.specs.Prelude.{◌≡◌, ℕ, ◌<◌, true, List, ◌∷◌}
use Rattle.fop_types.specs.declared.cells.Cell.{Cell}
use Rattle.fop_types.specs.declared.contents.Mask.{Mask}
use Rattle.fop_types.specs.declared.copy_jobs.CopyJob.{CopyJob}
use Rattle.afr_phases.specs.Flags.{names, flags_of}
use Rattle.afr_phases.specs.Asked.{is_within}

-- some replica is named by the mask and holds its lock
pub record HasHeld (mask held : Mask) : Type 0 where
  pub replica : ℕ
  pub low : replica < 5
  pub named : names mask replica ≡ true
  pub holds : names held replica ≡ true

-- a copy in a set of n
pub record HasWork (n : ℕ) (job : CopyJob) : Type 0 where
  pub cell : Cell
  pub rest : List Cell
  pub cells : job.cells ≡ cell ∷ rest
  pub sink : HasHeld job.sinks job.held
  pub source : HasHeld job.sources job.held
  pub within : is_within n (flags_of job.held) ≡ true
