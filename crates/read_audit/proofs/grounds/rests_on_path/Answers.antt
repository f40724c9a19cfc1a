use Rattle.read_audit.specs.Errors.{RestsOn}
use Rattle.read_audit.proofs.Reaching.{reached_is, leads_up}
use Rattle.read_audit.proofs.grounds.rests_on_path.Goals as goal

pub returns-then-branch : goal.returns-then-branch
returns-then-branch c = λ _.
    leads_up c.args.run.now.script.now c.args.run.now.plans.now c.args.run.now.log.now c.args.run.now.bricks.now c.args.by.call c.args.by.number c.args.path.now (RestsOn c.args.run.now.script.now c.args.run.now.plans.now c.args.run.now.log.now c.args.run.now.bricks.now c.args.by.call c.args.by.number c.args.call.now c.args.error) c.in-Some.reached _ c.name_at-next.ensures
    (reached_is c.args.run.now.script.now c.args.run.now.plans.now c.args.run.now.log.now c.args.run.now.bricks.now c.args.by.call c.args.by.number c.args.path.now c.in_ok-all.all.items c.as_slice.result.now _ _ c.in-Some.reached c.as_slice.ensures.value c.reached_at.ensures c.in-Some.is c.in_ok-all.ensures)
    (c.in_ok-rests_on.ensures c.if-branch.true)
