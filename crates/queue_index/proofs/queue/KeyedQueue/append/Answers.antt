use Rattle.std.proofs.Common.{ap}
use Rattle.queue_index.proofs.Entries.{alone_at_the_end, at_the_end}
use Rattle.queue_index.proofs.queue.KeyedQueue.append.Goals as goal
use Rattle.queue_index.proofs.queue.KeyedQueue.append.Goals.{in-None, in-Some+else-last}

pub returns-clause-added : goal.returns-clause-added
returns-clause-added g c = rw (← c.self.view_is) (elim c.match-last_key_value.branch [
  | in-None w ↦ alone_at_the_end c.self.inside.held.entries c.match-last_key_value.self-inside.held.entries c.add_entry.new.held.entries c.match-last_key_value.number c.args.item c.in-Ok.ensures.ok (ap (λ q. q.held.entries) w.self-inside-is) w.in-None.ensures.variant.1
  | in-Some+else-last w ↦ at_the_end c.self.inside.held.entries c.match-last_key_value.self-inside.held.entries c.add_entry.new.held.entries c.match-last_key_value.number w.in-Some.last.now c.args.item c.in-Ok.ensures.ok (ap (λ q. q.held.entries) w.self-inside-is) w.number-is w.in-Some.ensures.all_up_to
])
