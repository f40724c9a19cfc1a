use Rattle.log_replay.proofs.Counting.{counted}
use Rattle.log_replay.proofs.lengths.count_below.Goals as goal

pub returns : goal.returns
returns c = counted c.args.bound c.args.numbers.now c.cut.result c.cut.ensures
