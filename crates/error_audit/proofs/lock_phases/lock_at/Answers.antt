use Rattle.std.proofs.Common.{sym}
use Rattle.error_audit.proofs.Locking.{lock_read}
use Rattle.error_audit.proofs.lock_phases.lock_at.Goals as goal

pub returns-in_ok-found-in-Some-clause-complete : goal.returns-in_ok-found-in-Some-clause-complete
returns-in_ok-found-in-Some-clause-complete c = λ wind l.
    let read = lock_read c.args.log.now c.args.call c.args.at c.args.brick wind c.args.of.now c.in-Some.line.now (sym c.in-Some.ensures) l in c.in_ok-found-in-Some.ensures.complete wind read.0 read.1
