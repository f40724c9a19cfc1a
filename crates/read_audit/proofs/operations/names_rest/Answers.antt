use Rattle.read_audit.proofs.Resting.{names_are}
use Rattle.read_audit.proofs.operations.names_rest.Goals as goal

pub returns : goal.returns
returns c =
    names_are c.args.run.now.script.now c.args.run.now.plans.now c.args.run.now.log.now c.args.run.now.bricks.now c.args.ops.now c.args.by.call c.args.by.number c.args.call.now c.args.operation.now c.in_ok-taken.taken c.in-Some.from
    c.requires.unchanged (c.in_ok-are_reached.ensures.works c.if-not-branch.false) (c.in_ok-are_reached.ensures.moves c.if-not-branch.false) c.in-Some.is c.in_ok-taken.ensures (c.in_ok-has_room.ensures c.if-not-branch-2.false)
