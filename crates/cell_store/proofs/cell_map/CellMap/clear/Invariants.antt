use Rattle.std.proofs.Common.{◌≡◌, drop}
use Rattle.cell_store.specs.Cells.{cleared}
use Rattle.cell_store.proofs.cell_map.CellMap.clear.Given as goal

abbrev pub invariant-loop-cell : goal.invariant-loop-cell
invariant-loop-cell l = cleared (drop l.cell-index l.cells) l.who l.self ≡ cleared l.cells l.who l.fn.self
