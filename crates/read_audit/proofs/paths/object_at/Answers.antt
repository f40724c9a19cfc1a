use Rattle.std.proofs.Common.{arith}
use Rattle.read_audit.proofs.Walking.{leads_next, leads_end}
use Rattle.read_audit.proofs.paths.object_at.Goals as goal

pub loop-name-preserved : goal.loop-name-preserved
loop-name-preserved c =
    leads_next c.args.run.now.script.now c.args.run.now.plans.now c.args.run.now.log.now c.args.run.now.bricks.now c.args.by.call c.args.by.number c.args.path.now c.loop-name.name-index c.name-item.result c.loop-name.object c.in-Some.next c.in_ok-to.to c.loop-name-test.true c.name-item.is c.in-Some.is c.in_ok-to.ensures c.loop-name.invariant

pub returns : goal.returns
returns c = leads_end c.args.run.now.script.now c.args.run.now.plans.now c.args.run.now.log.now c.args.run.now.bricks.now c.args.by.call c.args.by.number c.args.path.now c.loop-name.name-index c.loop-name.object (omega (arith, c.loop-name-test.false)) c.loop-name.invariant
