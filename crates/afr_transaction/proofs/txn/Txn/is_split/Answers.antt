use Rattle.std.proofs.Common.{◌≡◌, true, false, ap, length, arith, sym, ◌∙◌}
use Rattle.afr_transaction.specs.Parts.{is_unsound}
use Rattle.afr_transaction.proofs.Steps.{split_here, split_later}
use Rattle.afr_transaction.proofs.txn.Txn.is_split.Goals as goal

pub returns-then-is_unsound : goal.returns-then-is_unsound
returns-then-is_unsound c =
    let so : is_unsound c.args.self.now c.loop-cell.c ≡ true = sym c.is_unsound.ensures ∙ c.if-is_unsound.true in
    split_here c.args.self.now c.loop-cell.c c.loop-cell._cell-index c.args.self.now.cells _ (omega (arith, ap length c.as_slice-cell-items.ensures)) c.loop-cell.invariant.rest so

pub loop-cell-preserved : goal.loop-cell-preserved
loop-cell-preserved c =
    let off : is_unsound c.args.self.now c.loop-cell.c ≡ false = sym c.is_unsound.ensures ∙ c.if-is_unsound.false in
    record { at = omega arith; rest = split_later c.args.self.now c.loop-cell.c c.loop-cell._cell-index c.args.self.now.cells _ (omega (arith, ap length c.as_slice-cell-items.ensures)) c.loop-cell.invariant.rest off }
