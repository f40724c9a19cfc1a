-- Whether lists of cells name a cell, and whether they have one in common. Ours.
use Rattle.std.specs.Prelude.{Bool, false, ◌||◌, List, [], ◌∷◌}
use Rattle.std.specs.Ordering.{is_eq}
use Rattle.fop_types.specs.Orders.{cell_cmp}
use Rattle.fop_types.specs.declared.cells.Cell.{Cell}

abbrev pub is_cell : Cell → Cell → Bool
is_cell a b = is_eq (cell_cmp a b)

-- the cell is one of them
abbrev pub has_cell : List Cell → Cell → Bool
has_cell [] cell = false
has_cell (c ∷ cs) cell = is_cell cell c || has_cell cs cell

-- the two lists have a cell in common
abbrev pub share : List Cell → List Cell → Bool
share [] others = false
share (c ∷ cs) others = has_cell others c || share cs others
