use Rattle.std.proofs.Common.{◌≡◌, true, false, ap, length, arith, sym, ◌∙◌}
use Rattle.afr_transaction.specs.Reads.{is_bare}
use Rattle.afr_transaction.proofs.Steps.{bare_here, bare_later}
use Rattle.afr_transaction.proofs.txn.Txn.is_split_read.Goals as goal

pub returns-then-is_bare : goal.returns-then-is_bare
returns-then-is_bare c =
    let so : is_bare c.args.self.now c.loop-cell.c ≡ true = sym c.is_bare.ensures ∙ c.if-is_bare.true in
    bare_here c.args.self.now c.loop-cell.c c.loop-cell._cell-index c.args.self.now.cells _ (omega (arith, ap length c.as_slice-cell-items.ensures)) c.loop-cell.invariant.rest so

pub loop-cell-preserved : goal.loop-cell-preserved
loop-cell-preserved c =
    let off : is_bare c.args.self.now c.loop-cell.c ≡ false = sym c.is_bare.ensures ∙ c.if-is_bare.false in
    record { at = omega arith; rest = bare_later c.args.self.now c.loop-cell.c c.loop-cell._cell-index c.args.self.now.cells _ (omega (arith, ap length c.as_slice-cell-items.ensures)) c.loop-cell.invariant.rest off }
