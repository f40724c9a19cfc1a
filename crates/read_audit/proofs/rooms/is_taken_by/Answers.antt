use Rattle.read_audit.proofs.Resting.{name_on}
use Rattle.read_audit.proofs.rooms.is_taken_by.Goals as goal

pub returns-in-Some : goal.returns-in-Some
returns-in-Some c = λ yes. name_on c.args.run.now.script.now c.args.run.now.plans.now c.args.run.now.log.now c.args.run.now.bricks.now c.args.by.call c.args.by.number c.args.dir c.args.name.now c.in_ok-to.to c.in-Some.object c.args.set c.in-Some.is c.in_ok-to.ensures (c.is_set.ensures yes)
