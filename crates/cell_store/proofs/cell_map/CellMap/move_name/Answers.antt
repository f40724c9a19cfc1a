use Rattle.std.proofs.Common.{◌∙◌, ap, sym, List, ℕ}
use Rattle.std.specs.Ordering.{is_eq}
use Rattle.fop_types.specs.StoreOps.{item_in}
use Rattle.cell_store.specs.Cells.{contents_of}
use Rattle.cell_store.proofs.Edits.{renamed_in}
use Rattle.cell_store.proofs.Results.{on_ok}
use Rattle.cell_store.proofs.cell_map.CellMap.move_name.Goals as goal

pub returns-then-is_eq-clause-ok : goal.returns-then-is_eq-clause-ok
returns-then-is_eq-clause-ok c =
    on_ok c.edit.result c.edit.ensures.ok
    (λ made. renamed_in _ _ c.args.parent c.args.target c.args.name c.args.new_name c.in-Some.found.now _ _
    (ap (λ (n : List ℕ). item_in (contents_of c.args.self.now) c.args.parent n) (sym c.as_slice.ensures) ∙ sym c.in-Some.ensures)
    c.in_ok-copy.ensures _ c.names_cell.ensures (ap is_eq (sym c.cmp.ensures) ∙ sym c.is_eq.ensures ∙ c.if-is_eq.true) made)
