use Rattle.read_audit.proofs.Resting.{object_is}
use Rattle.read_audit.proofs.operations.object_rests.Goals as goal

pub returns : goal.returns
returns c =
    object_is c.args.run.now.script.now c.args.run.now.plans.now c.args.run.now.log.now c.args.run.now.bricks.now c.args.ops.now c.args.by.call c.args.by.number c.args.call.now c.args.operation.now c.args.gfid c.path_for-path.result.now c.in_ok-reached.reached c.in-Some.object c.home-set.result
    c.requires.changed c.path_for-path.ensures c.in-Some.is c.in_ok-reached.ensures (c.is_gfid.ensures c.if-not-is_gfid.false) c.home-set.ensures
