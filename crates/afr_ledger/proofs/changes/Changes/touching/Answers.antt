use Rattle.std.proofs.Common.{sym, ◌∙◌}
use Rattle.afr_ledger.proofs.Least.{next_cell, no_cell}
use Rattle.afr_ledger.proofs.changes.Changes.touching.Goals as goal

pub loop-cell-preserved : goal.loop-cell-preserved
loop-cell-preserved g c =
    c.lesser-least.ensures
    ∙ next_cell g.C.Ord.cmp c.args.set c.args.cells.now c.loop-cell.cell-index c.cell-item.result c.args.self.now c.loop-cell.least c.owner.result c.cell-item.is c.loop-cell-test.true c.keep_apart.ensures.rising c.loop-cell.invariant c.owner.ensures

pub loop-cell-init : goal.loop-cell-init
loop-cell-init g c = sym (no_cell g.C.Ord.cmp c.args.set c.args.self.now)
