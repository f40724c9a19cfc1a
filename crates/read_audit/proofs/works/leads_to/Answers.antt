use Rattle.std.proofs.Common.{◌≡◌}
use Rattle.fop_types.specs.declared.fops.Object.{Object}
use Rattle.read_audit.proofs.Leading.{leads_to_one}
use Rattle.read_audit.proofs.works.leads_to.Goals as goal

pub returns-in-Some : goal.returns-in-Some
returns-in-Some c = λ yes.
    leads_to_one c.args.run.now.script.now c.args.run.now.plans.now c.args.run.now.log.now c.args.run.now.bricks.now c.args.by.call c.args.by.number c.args.path.now (λ (o : Object). o.gfid ≡ c.args.gfid) c.in_ok-reached.reached _ c.in-Some.is c.in_ok-reached.ensures
    (c.is_gfid.ensures yes)
