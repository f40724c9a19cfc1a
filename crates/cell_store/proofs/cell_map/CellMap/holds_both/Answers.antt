use Rattle.std.proofs.Common.{◌∙◌, sym, ap}
use Rattle.fop_types.specs.declared.cells.Cell.{Cell}
use Rattle.fop_types.specs.StoreOps.{holds}
use Rattle.cell_store.specs.Cells.{contents_of}
use Rattle.cell_store.proofs.Looks.{both_there}
use Rattle.cell_store.proofs.cell_map.CellMap.holds_both.Goals as goal

pub returns-then-holds : goal.returns-then-holds
returns-then-holds c =
    c.holds-then-holds.ensures ∙ ap (λ (x : Cell). holds x.aspect (contents_of c.args.self.now x)) c.names_cell-then-holds.ensures
    ∙ both_there (contents_of c.args.self.now) c.args.a c.args.b
    (ap (λ (x : Cell). holds x.aspect (contents_of c.args.self.now x)) (sym c.names_cell.ensures) ∙ sym c.holds.ensures ∙ c.if-holds.true)
