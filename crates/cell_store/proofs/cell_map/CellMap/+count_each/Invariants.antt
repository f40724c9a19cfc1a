use Rattle.std.proofs.Common.{length}
use Rattle.cell_store.proofs.cell_map.CellMap.+count_each.Given as goal

-- the cells that are left
abbrev pub decreases-count_each : goal.decreases-count_each
decreases-count_each l = length l.cells.now
