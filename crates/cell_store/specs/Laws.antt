-- What holds of every store and every op, whether it fits or not: the copies after its edits and births are those
-- that StoreOps says, an altered or newly born cell has the op's change as its last, and every counter stays.
use Rattle.std.specs.Prelude.{◌≡◌, ℕ, ◌&&◌, ◌||◌, Bool, false, List, [], ◌∷◌, is_none, if◌then◌else◌}
use Rattle.std.specs.Ordering.{is_eq}
use Rattle.fop_types.specs.Orders.{cell_cmp}
use Rattle.fop_types.specs.StoreOps.{Edit, edits, births, contents_after}
use Rattle.fop_types.specs.declared.cells.Cell.{Cell}
use Rattle.fop_types.specs.declared.contents.Content.{Content}
use Rattle.fop_types.specs.declared.store_ops.StoreOp.{StoreOp}
use Rattle.cell_store.specs.Cells.{Cells, kept_at, contents_of, with_op}

-- whether one of these edits or births is of the cell
abbrev pub is_edited : Cell → List (Cell × Edit) → Bool
is_edited cell [] = false
is_edited cell (e ∷ es) = is_eq (cell_cmp cell e.0) || is_edited cell es

abbrev pub is_born : Cell → List (Cell × Content) → Bool
is_born cell [] = false
is_born cell (b ∷ bs) = is_eq (cell_cmp cell b.0) || is_born cell bs

pub record IsAfterOp (cells : Cells) (change : ℕ) (op : StoreOp) (cell : Cell) : Type 0 where
  pub copy : contents_of (with_op cells change op) cell ≡ contents_after (contents_of cells) op cell
  pub dirty : (kept_at (with_op cells change op) cell).dirty ≡ (kept_at cells cell).dirty
  pub pending : (kept_at (with_op cells change op) cell).pending ≡ (kept_at cells cell).pending
  pub last : (kept_at (with_op cells change op) cell).last
      ≡ (if is_edited cell (edits (contents_of cells) op) || (is_born cell (births op) && is_none (contents_of cells cell))
      then change else (kept_at cells cell).last)

abbrev pub OpsChangeCopies : Type 0
OpsChangeCopies = (cells : Cells) (change : ℕ) (op : StoreOp) (cell : Cell) → IsAfterOp cells change op cell
