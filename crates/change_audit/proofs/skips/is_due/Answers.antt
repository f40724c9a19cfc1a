use Rattle.change_audit.proofs.ListedCells.{skip_due}
use Rattle.change_audit.proofs.skips.is_due.Goals as goal

pub returns : goal.returns
returns c = λ yes. skip_due c.args.log.now c.args.bricks.now c.args.k c.in-Some-number_at.number c.in-Some.skip.now c.in-Some.ensures c.in-Some-number_at.ensures (c.is_listed.ensures yes)
