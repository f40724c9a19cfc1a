use Rattle.std.proofs.Common.{◌≡◌}
use Rattle.error_audit.proofs.Locking.{lock_is}
use Rattle.error_audit.proofs.lock_phases.lock_of.Goals as goal

pub returns-else-is_lock-clause-complete : goal.returns-else-is_lock-clause-complete
returns-else-is_lock-clause-complete c = λ wind l.
    let found = (c.is_lock.ensures _ _).1 (lock_is c.args.call wind _ _ c.args.of.now _ c.args.sent.now c.in-Request.is l) in let missed = c.if-is_lock.false in absurd cc
