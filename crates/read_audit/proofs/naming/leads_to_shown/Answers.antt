use Rattle.fop_types.specs.declared.fops.Object.{Object}
use Rattle.read_audit.specs.Names.{IsOf}
use Rattle.read_audit.specs.Read.{asked_by}
use Rattle.read_audit.proofs.Leading.{leads_to_one}
use Rattle.read_audit.proofs.naming.leads_to_shown.Goals as goal

pub returns : goal.returns
returns c = λ yes.
    leads_to_one c.args.run.now.script.now c.args.run.now.plans.now c.args.run.now.log.now c.args.run.now.bricks.now c.args.by.call c.args.by.number c.args.path.now (λ (o : Object). IsOf c.args.run.now.script.now c.args.run.now.plans.now c.args.run.now.log.now c.args.run.now.bricks.now c.args.by.call c.args.by.number o (asked_by c.args.call.now) c.args.answer.now) c.in_ok-reached.reached c.in-Some.object c.in-Some.is c.in_ok-reached.ensures
    (c.in_ok-yes.ensures yes)
