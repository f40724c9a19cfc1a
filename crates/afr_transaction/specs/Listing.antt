-- Cells that replicas list: each once, rising.
use Rattle.std.specs.Prelude.{List, [], ◌∷◌}
use Rattle.std.specs.BTreeSet.{insert_key}
use Rattle.fop_types.specs.Orders.{cell_cmp}
use Rattle.fop_types.specs.declared.cells.Cell.{Cell}

-- with the cells that one more replica has listed
abbrev pub with_cells : List Cell → List Cell → List Cell
with_cells all [] = all
with_cells all (cell ∷ cells) = with_cells (insert_key cell_cmp all cell) cells
