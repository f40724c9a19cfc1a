use Rattle.std.proofs.Common.{refl, ◌∙◌}
use Rattle.mount_locks.specs.Rule.{request_of}
use Rattle.mount_locks.proofs.Asking.{asked_in, end_waits}
use Rattle.mount_locks.proofs.Once.{ask_once}
use Rattle.mount_locks.proofs.locks.MountLocks.ask.Goals as goal

pub invariant_of-self-2 : goal.invariant_of-self-2
invariant_of-self-2 c = (asked_in c.self.inside.queue c.push_back.new.self c.settle-held.new.queue c.in_ok-number.number c.args.call c.from_vec-gfids.result c.args.gfids.now c.args.shared c.settle-held.result c.numbers_rise.ensures (c.from_vec-gfids.ensures ∙ c.in_ok-from_slice.ensures.items) c.in_ok-number.ensures.added c.numbers_rise-2.ensures c.self.invariant c.settle-held.ensures.turned c.settle-held.ensures.held c.settle-held.ensures.unpassed).settled

pub returns-clause-answer : goal.returns-clause-answer
returns-clause-answer c = rw (← c.self.view_is) (asked_in c.self.inside.queue c.push_back.new.self c.settle-held.new.queue c.in_ok-number.number c.args.call c.from_vec-gfids.result c.args.gfids.now c.args.shared c.settle-held.result c.numbers_rise.ensures (c.from_vec-gfids.ensures ∙ c.in_ok-from_slice.ensures.items) c.in_ok-number.ensures.added c.numbers_rise-2.ensures c.self.invariant c.settle-held.ensures.turned c.settle-held.ensures.held c.settle-held.ensures.unpassed).answer_is

pub returns-clause-ok : goal.returns-clause-ok
returns-clause-ok c = rw (← c.self.view_is) (asked_in c.self.inside.queue c.push_back.new.self c.settle-held.new.queue c.in_ok-number.number c.args.call c.from_vec-gfids.result c.args.gfids.now c.args.shared c.settle-held.result c.numbers_rise.ensures (c.from_vec-gfids.ensures ∙ c.in_ok-from_slice.ensures.items) c.in_ok-number.ensures.added c.numbers_rise-2.ensures c.self.invariant c.settle-held.ensures.turned c.settle-held.ensures.held c.settle-held.ensures.unpassed).queue_is

pub settle-held-requires : goal.settle-held-requires
settle-held-requires c = end_waits c.self.inside.queue c.push_back.new.self c.in_ok-number.number (request_of c.args.call c.from_vec-gfids.result c.args.shared) c.numbers_rise.ensures refl c.in_ok-number.ensures.added c.numbers_rise-2.ensures c.self.invariant

pub returns-clause-once : goal.returns-clause-once
returns-clause-once c = ask_once c.args.self.now _ (request_of c.args.call c.args.gfids.now c.args.shared) refl (returns-clause-ok c)
