use Rattle.run_audit.proofs.Cutting.{counted}
use Rattle.run_audit.proofs.settled.count_to.Goals as goal

pub returns : goal.returns
returns c = counted c.args.numbers.now c.args.n c.cut_at.result c.cut_at.ensures
