use Rattle.std.proofs.Common.{◌≡◌, true, false, ap, length, arith}
use Rattle.afr_phases.specs.Shown.{shown_at}
use Rattle.afr_transaction.specs.Sound.{is_last}
use Rattle.afr_transaction.proofs.Steps.{has_not, has_more}
use Rattle.afr_transaction.proofs.txn.Txn.has_it.Goals as goal

pub returns-then-not-is_last : goal.returns-then-not-is_last
returns-then-not-is_last c =
    let off : is_last (shown_at c.args.self.now.shown c.loop-cell.c c.args.k) c.args.change ≡ false = cc in
    has_not c.args.self.now.shown c.args.change c.loop-cell.c c.args.k c.loop-cell._cell-index c.args.self.now.cells _ (omega (arith, ap length c.as_slice-cell-items.ensures)) c.loop-cell.invariant.rest off

pub loop-cell-preserved : goal.loop-cell-preserved
loop-cell-preserved c =
    let so : is_last (shown_at c.args.self.now.shown c.loop-cell.c c.args.k) c.args.change ≡ true = cc in
    record {
      at = omega arith;
      rest = has_more c.args.self.now.shown c.args.change c.loop-cell.c c.args.k c.loop-cell._cell-index c.args.self.now.cells _ (omega (arith, ap length c.as_slice-cell-items.ensures)) c.loop-cell.invariant.rest so;
    }
