use Rattle.std.proofs.Common.{ap, ◌∙◌}
use Rattle.mount_locks.specs.Rule.{without}
use Rattle.mount_locks.proofs.Leaving.{done_settled, without_is}
use Rattle.mount_locks.proofs.Once.{without_once}
use Rattle.mount_locks.proofs.locks.MountLocks.release_done.Goals as goal

pub invariant_of-self : goal.invariant_of-self
invariant_of-self c = done_settled c.call_key.result c.self.inside.queue c.forget.new.queue c.has_waiting.result c.numbers_rise.ensures c.forget.ensures c.has_waiting.ensures c.if-has_waiting.false c.self.invariant

pub returns-clause-done : goal.returns-clause-done
returns-clause-done c = λ _. without_is c.args.call c.call_key.result c.self.inside.queue c.forget.new.queue c.call_key.ensures c.forget.ensures ∙ ap (without c.args.call) c.self.view_is

pub returns-clause-once : goal.returns-clause-once
returns-clause-once c = λ yes. without_once c.args.call c.args.self.now _ (returns-clause-done c yes)
