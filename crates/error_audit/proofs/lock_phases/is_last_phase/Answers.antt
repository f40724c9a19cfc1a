use Rattle.std.proofs.Common.{◌≡◌, map}
use Rattle.error_audit.proofs.Locking.{in_order, in_last_phase}
use Rattle.error_audit.proofs.lock_phases.is_last_phase.Goals as goal

pub returns-in-Some-clause-sound : goal.returns-in-Some-clause-sound
returns-in-Some-clause-sound c = λ yes.
    in_order c.args.log.now c.args.plan.now (map (λ l. l.items) c.args.locks.now) c.args.call c.args.from c.in-Some.own.now c.requires c.in-Some.ensures.within c.in-Some.ensures.there (c.are_in_order.ensures.0 yes)

pub returns-in-Some-clause-complete : goal.returns-in-Some-clause-complete
returns-in-Some-clause-complete c = λ are low last.
    c.are_in_order.ensures.1 (in_last_phase c.args.log.now c.args.plan.now (map (λ l. l.items) c.args.locks.now) c.args.call c.args.from c.in-Some.own.now are c.in-Some.ensures.there last)
