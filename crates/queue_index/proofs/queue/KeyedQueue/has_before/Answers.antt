use Rattle.queue_index.proofs.Touching.{before_first, before_none}
use Rattle.queue_index.proofs.queue.KeyedQueue.has_before.Goals as goal

pub returns-in_default : goal.returns-in_default
returns-in_default g c = before_none g.T.Keyed.keys c.args.key c.args.number c.args.self.now c.in_default.ensures.none

pub returns : goal.returns
returns g c = before_first g.T.Keyed.keys c.args.key c.args.number c.in-Some.first c.args.self.now c.in-Some.ensures.found
