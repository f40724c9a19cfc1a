use Rattle.std.proofs.Common.{◌≡◌, true, false, ap, length, arith}
use Rattle.afr_transaction.specs.Sound.{is_alike}
use Rattle.afr_transaction.proofs.Steps.{agrees_not, agrees_more}
use Rattle.afr_transaction.proofs.txn.Txn.agrees.Goals as goal

pub returns-then-not-is_alike : goal.returns-then-not-is_alike
returns-then-not-is_alike c =
    let off : is_alike c.args.self.now.shown c.args.change c.args.source c.loop-cell.c c.args.k ≡ false = cc in
    agrees_not c.args.self.now.shown c.args.change c.args.source c.loop-cell.c c.args.k c.loop-cell._cell-index c.args.self.now.cells _ (omega (arith, ap length c.as_slice-cell-items.ensures)) c.loop-cell.invariant.rest off

pub loop-cell-preserved : goal.loop-cell-preserved
loop-cell-preserved c =
    let so : is_alike c.args.self.now.shown c.args.change c.args.source c.loop-cell.c c.args.k ≡ true = cc in
    record {
      at = omega arith;
      rest = agrees_more c.args.self.now.shown c.args.change c.args.source c.loop-cell.c c.args.k c.loop-cell._cell-index c.args.self.now.cells _ (omega (arith, ap length c.as_slice-cell-items.ensures)) c.loop-cell.invariant.rest so;
    }
