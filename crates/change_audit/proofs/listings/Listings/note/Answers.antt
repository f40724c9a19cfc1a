use Rattle.std.proofs.Common.{ap, ◌∙◌}
use Rattle.std.specs.Prelude.{ℕ, List}
use Rattle.std.specs.BTreeMap.{insert_entry}
use Rattle.fop_types.specs.Orders.{cell_cmp}
use Rattle.fop_types.specs.declared.cells.Cell.{Cell}
use Rattle.change_audit.proofs.ListedCells.{adds_one}
use Rattle.change_audit.proofs.listings.Listings.note.Goals as goal

pub returns : goal.returns
returns c =
    adds_one c.args.self.now c.insert.new.self.entries c.args.cell c.args.event
    (c.in_ok-insert.ensures.entries ∙ ap (λ (l : List (Cell × ℕ)). insert_entry cell_cmp l c.args.cell c.args.event) c.self.view_is)
