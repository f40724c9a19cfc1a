use Rattle.change_audit.proofs.Bearing.{distinct}
use Rattle.read_audit.proofs.quorums.are_apart.Goals as goal

pub returns : goal.returns
returns c = λ yes. distinct 0 c.args.holders.now (c.are_rising.ensures yes)
