use Rattle.queue_index.proofs.Touching.{next_is, next_none, next_fits}
use Rattle.queue_index.proofs.queue.KeyedQueue.next.Goals as goal

pub returns-in_default-clause-none : goal.returns-in_default-clause-none
returns-in_default-clause-none g c = rw (← c.self.view_is) (next_none g.T.Keyed.keys c.self.inside.held.entries c.self.inside.places c.args.from c.args.key c.self.invariant c.in_default.ensures.none)

pub returns-clause-found : goal.returns-clause-found
returns-clause-found g c = rw (← c.self.view_is) (next_is g.T.Keyed.keys c.self.inside.held.entries c.self.inside.places c.args.from c.in-Some.found c.args.key c.self.invariant c.in-Some.ensures.first)

pub returns-clause-fits : goal.returns-clause-fits
returns-clause-fits g c = next_fits g.T.Keyed.keys c.self.inside.held.entries c.self.inside.places c.args.from c.in-Some.found c.args.key c.self.invariant c.in-Some.ensures.first
