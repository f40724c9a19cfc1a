-- The work left of a copy: the requests that are not answered, and those that may still be given. A cell takes a fetch and
-- up to five replacements, a source that goes out one fetch more, and the clear goes to at most five.
use Rattle.std.specs.Prelude.{ℕ, ◌+◌, ◌*◌, ◌-◌, Bool, List, [], ◌∷◌, length}
use Rattle.afr_phases.specs.Flags.{bit}
use Rattle.self_heal.specs.declared.run.CopyRun.{CopyRun}
use Rattle.self_heal.specs.declared.stage.Stage.{Stage}
use Rattle.self_heal.specs.declared.stage.Stage.TheVariants as stage
use Rattle.self_heal.specs.Runs.{sources_left}

-- how many are true
abbrev pub count : List Bool → ℕ
count [] = 0
count (flag ∷ flags) = bit flag + count flags

-- the cells that were not replaced on the sinks yet
abbrev pub cells_left : CopyRun → ℕ
cells_left run = length run.job.cells - length run.origins

-- how many requests may still be given
abbrev pub may_ask : Stage → ℕ → ℕ → ℕ
may_ask (stage.Fetching from) cells sources = 6 * cells + sources + 4
may_ask (stage.Replacing origin) cells sources = 6 * (cells - 1) + sources + 5
may_ask (stage.Clearing current) cells sources = 0
may_ask stage.Over cells sources = 0

abbrev pub work : CopyRun → ℕ
work run = count run.wave.asked + may_ask run.stage (cells_left run) (count (sources_left run))
