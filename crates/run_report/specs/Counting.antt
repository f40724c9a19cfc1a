-- How many winds each graph has opened and ended.
use Rattle.std.specs.Prelude.{◌≡◌, ℕ, ◌+◌, ◌<◌, List, length, count_by}
use Rattle.std.proofs.Common.{get_or}
use Rattle.mount_log.specs.declared.logs.WindLine.{WindLine}
use Rattle.run_report.specs.Reports.{is_opening_in, is_end_in}
use Rattle.run_report.specs.declared.graph_lines.Winds.{Winds}

-- the counts of so many graphs, of which the first has number 1
pub record AreCountsOf (graphs : ℕ) (lines : List WindLine) (counts : List Winds) : Type 0 where
  pub long : length counts ≡ graphs
  pub opened : (at : ℕ) (d : Winds) → at < length counts → (get_or counts at d).opened ≡ count_by (is_opening_in (at + 1)) lines
  pub ended : (at : ℕ) (d : Winds) → at < length counts → (get_or counts at d).ended ≡ count_by (is_end_in (at + 1)) lines
