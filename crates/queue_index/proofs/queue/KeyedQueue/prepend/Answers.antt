use Rattle.std.proofs.Common.{arith, ap}
use Rattle.queue_index.proofs.Entries.{alone_at_the_front, at_the_front}
use Rattle.queue_index.proofs.queue.KeyedQueue.prepend.Goals as goal
use Rattle.queue_index.proofs.queue.KeyedQueue.prepend.Goals.{in-None, in-Some+else-first-eq0}

pub returns-clause-added : goal.returns-clause-added
returns-clause-added g c = rw (← c.self.view_is) (elim c.match-first_key_value.branch [
  | in-None w ↦ alone_at_the_front c.self.inside.held.entries c.match-first_key_value.self-inside.held.entries c.add_entry.new.held.entries c.match-first_key_value.number c.args.item c.in-Ok.ensures.ok (ap (λ q. q.held.entries) w.self-inside-is) w.in-None.ensures.variant.1
  | in-Some+else-first-eq0 w ↦ at_the_front c.self.inside.held.entries c.match-first_key_value.self-inside.held.entries c.add_entry.new.held.entries c.match-first_key_value.number w.in-Some.first.now c.args.item c.in-Ok.ensures.ok (ap (λ q. q.held.entries) w.self-inside-is) (omega (arith, w.number-is, w.if-first-eq0.false)) w.in-Some.ensures.all_from
])
