use Rattle.queue_index.specs.Rivals.{is_rival}
use Rattle.queue_index.proofs.Numbers.{set_is}
use Rattle.queue_index.proofs.rivals.rivals_of.Goals as goal

pub returns : goal.returns
returns g c = set_is (λ e. is_rival g.T.Keyed.keys c.args.key c.args.queue.now e.1) c.in_ok-found.found c.args.queue.now c.numbers_rise.ensures c.in_ok-found.ensures.ordered c.in_ok-found.ensures.found
