use Rattle.mount_locks.proofs.Leaving.{released_is, stays}
use Rattle.mount_locks.proofs.Passed.{left_unpassed}
use Rattle.mount_locks.proofs.Once.{release_once}
use Rattle.mount_locks.proofs.locks.MountLocks.release.Goals as goal

pub invariant_of-self : goal.invariant_of-self
invariant_of-self c = (released_is c.args.call c.call_key.result c.call_key-2.result c.self.inside.queue c.requests.result.now c.forget.new.queue c.grant.new.queue c.in_ok-rivals.rivals.keys c.grant.new.calls.items c.call_key.ensures c.call_key-2.ensures c.numbers_rise.ensures c.self.invariant c.requests.ensures.value c.in_ok-rivals.ensures c.forget.ensures c.grant.ensures.turned c.grant.ensures.calls c.grant.ensures.unpassed).settled

pub returns-clause-calls : goal.returns-clause-calls
returns-clause-calls c = rw (← c.self.view_is) (released_is c.args.call c.call_key.result c.call_key-2.result c.self.inside.queue c.requests.result.now c.forget.new.queue c.grant.new.queue c.in_ok-rivals.rivals.keys c.grant.new.calls.items c.call_key.ensures c.call_key-2.ensures c.numbers_rise.ensures c.self.invariant c.requests.ensures.value c.in_ok-rivals.ensures c.forget.ensures c.grant.ensures.turned c.grant.ensures.calls c.grant.ensures.unpassed).calls_are

pub returns-clause-ok : goal.returns-clause-ok
returns-clause-ok c = rw (← c.self.view_is) (released_is c.args.call c.call_key.result c.call_key-2.result c.self.inside.queue c.requests.result.now c.forget.new.queue c.grant.new.queue c.in_ok-rivals.rivals.keys c.grant.new.calls.items c.call_key.ensures c.call_key-2.ensures c.numbers_rise.ensures c.self.invariant c.requests.ensures.value c.in_ok-rivals.ensures c.forget.ensures c.grant.ensures.turned c.grant.ensures.calls c.grant.ensures.unpassed).queue

pub grant-requires-clause-unpassed : goal.grant-requires-clause-unpassed
grant-requires-clause-unpassed c = left_unpassed (stays c.call_key-2.result) c.self.inside.queue c.forget.new.queue c.numbers_rise.ensures c.self.invariant.unpassed c.forget.ensures

pub returns-clause-once : goal.returns-clause-once
returns-clause-once c = release_once c.args.call c.args.self.now _ (returns-clause-ok c)
