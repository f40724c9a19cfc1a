use Rattle.read_audit.proofs.Leading.{named_is}
use Rattle.read_audit.proofs.naming.is_named.Goals as goal

pub returns : goal.returns
returns c = λ yes.
    named_is c.args.run.now.script.now c.args.run.now.plans.now c.args.run.now.log.now c.args.run.now.bricks.now c.args.by.call c.args.by.number c.args.call.now c.args.answer.now c.first_path-path.result.now c.second_path-other.result.now c.first_path-path.ensures c.second_path-other.ensures (c.in_ok-leads_to_shown.ensures c.if-not-branch.false)
    (c.in_ok-yes.ensures yes)
