use Rattle.std.proofs.Common.{ap, ◌∙◌}
use Rattle.queue_index.specs.Queue.{without}
use Rattle.queue_index.proofs.Entries.{removed_is}
use Rattle.queue_index.proofs.queue.KeyedQueue.remove.Goals as goal

pub returns-in_default : goal.returns-in_default
returns-in_default g c = c.remove.ensures.entries ∙ removed_is c.args.number c.self.inside.held.entries c.self.invariant.rising ∙ ap (without c.args.number) c.self.view_is

pub returns : goal.returns
returns g c = c.remove.ensures.entries ∙ removed_is c.args.number c.self.inside.held.entries c.self.invariant.rising ∙ ap (without c.args.number) c.self.view_is
