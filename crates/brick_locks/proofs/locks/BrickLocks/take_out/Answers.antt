use Rattle.std.proofs.Common.{◌≡◌, sym, ap, ◌∙◌, cond, Bool, List, not, [], filter}
use Rattle.queue_index.specs.Queue.{items, touches}
use Rattle.brick_locks.specs.Keys.{keys_of}
use Rattle.brick_locks.specs.Locks.{owners, gone, freed}
use Rattle.brick_locks.specs.declared.request.Request.{Request}
use Rattle.brick_locks.specs.declared.owner.Owner.{Owner}
use Rattle.brick_locks.proofs.Freeing.{left_is, items_left, gone_are, freed_are}
use Rattle.brick_locks.proofs.Laws.{differ_left}
use Rattle.brick_locks.proofs.locks.BrickLocks.take_out.Goals as goal

pub returns-clause-left : goal.returns-clause-left
returns-clause-left c = rw (← c.self.view_is) (items_left c.args.key c.self.inside.queue c.remove_all.new.queue (left_is c.args.key c.self.inside.queue c.remove_all.new.queue c.deref-2.result.now c.numbers_rise.ensures (c.deref-2.ensures.value ∙ c.in_ok-numbers.ensures) c.remove_all.ensures))

pub returns-clause-gone : goal.returns-clause-gone
returns-clause-gone c = rw (← c.self.view_is) (gone_are c.args.key c.self.inside.queue c.deref.result.now c.in_ok-gone.gone c.numbers_rise.ensures (c.deref.ensures.value ∙ c.in_ok-numbers.ensures) c.in_ok-gone.ensures)

pub returns-clause-granted : goal.returns-clause-granted
returns-clause-granted c = rw (← c.self.view_is) (c.from_vec.ensures ∙ freed_are c.args.key c.self.inside.queue c.remove_all.new.queue c.in_ok-next.next.keys c.push_holders.new.owners.items c.numbers_rise.ensures (left_is c.args.key c.self.inside.queue c.remove_all.new.queue c.deref-2.result.now c.numbers_rise.ensures (c.deref-2.ensures.value ∙ c.in_ok-numbers.ensures) c.remove_all.ensures) c.in_ok-next.ensures c.push_holders.ensures)

pub invariant_of-self : goal.invariant_of-self
invariant_of-self c = differ_left (λ r. not (touches keys_of c.args.key r)) c.self.inside.queue c.remove_all.new.queue (items_left c.args.key c.self.inside.queue c.remove_all.new.queue (left_is c.args.key c.self.inside.queue c.remove_all.new.queue c.deref-2.result.now c.numbers_rise.ensures (c.deref-2.ensures.value ∙ c.in_ok-numbers.ensures) c.remove_all.ensures)) c.self.invariant
