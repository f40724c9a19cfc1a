use Rattle.queue_index.proofs.Touching.{has_first, has_none}
use Rattle.queue_index.proofs.queue.KeyedQueue.has.Goals as goal

pub returns-in_default : goal.returns-in_default
returns-in_default g c = has_none g.T.Keyed.keys c.args.key c.args.self.now c.in_default.ensures.none

pub returns : goal.returns
returns g c = has_first g.T.Keyed.keys c.args.key _ _ c.args.self.now c.in-Some.ensures.found
