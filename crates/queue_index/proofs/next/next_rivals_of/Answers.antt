use Rattle.queue_index.specs.Next.{is_next}
use Rattle.queue_index.proofs.Numbers.{set_is}
use Rattle.queue_index.proofs.next.next_rivals_of.Goals as goal

pub returns : goal.returns
returns g c = set_is (λ e. is_next g.T.Keyed.keys c.args.key c.args.queue.now e.0 e.1) c.in_ok-found.found c.args.queue.now c.numbers_rise.ensures c.in_ok-found.ensures.ordered c.in_ok-found.ensures.found
