use Rattle.std.proofs.Common.{◌≡◌, ◌++◌}
use Rattle.cell_store.specs.Cells.{present_in}
use Rattle.cell_store.proofs.cell_map.CellMap.cells.Given as goal

abbrev pub invariant-loop-cell : goal.invariant-loop-cell
invariant-loop-cell l = l.present.items ++ present_in l.cell-iterator ≡ present_in l.initial.cell-iterator
