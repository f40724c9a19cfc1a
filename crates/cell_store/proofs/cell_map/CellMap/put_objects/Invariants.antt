use Rattle.std.proofs.Common.{◌≡◌, ◌++◌}
use Rattle.std.specs.Prelude.{None}
use Rattle.cell_store.specs.Dump.{lines_from}
use Rattle.cell_store.proofs.cell_map.CellMap.put_objects.Given as goal

abbrev pub invariant-loop-cell : goal.invariant-loop-cell
invariant-loop-cell l = l.text ++ lines_from l.names l.self l.last l.cell-iterator ≡ l.initial.text ++ lines_from l.names l.self None l.initial.cell-iterator
