use Rattle.read_audit.proofs.Resting.{name_is}
use Rattle.read_audit.proofs.operations.name_taken.Goals as goal

pub returns-in-Some : goal.returns-in-Some
returns-in-Some c = name_is c.args.run.now.script.now c.args.run.now.plans.now c.args.run.now.log.now c.args.run.now.bricks.now c.args.by.call c.args.by.number c.args.dir c.args.name.now c.in_ok-to.to c.in-Some.object c.in-Some.is c.in_ok-to.ensures
