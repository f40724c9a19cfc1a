use Rattle.change_audit.proofs.Copying.{copy_due}
use Rattle.change_audit.proofs.copies.take_copy.Goals as goal

pub returns-clause-claimed : goal.returns-clause-claimed
returns-clause-claimed c = λ yes.
    copy_due c.args.script.now c.args.plans.now c.args.log.now c.args.bricks.now c.take_replacement.new.claims c.args.k c.in-Some-number_at.number c.in-Some.copy.now c.in-Some.ensures
    c.in-Some-number_at.ensures (c.in_ok-yes.ensures.claimed yes)
