use Rattle.change_audit.proofs.Graphs.{borne}
use Rattle.change_audit.proofs.changes.is_borne.Goals as goal

pub returns : goal.returns
returns c = λ yes.
    borne c.args.script.now c.args.log.now c.args.notes.now.graphs c.requires c.args.plans.now c.args.bricks.now c.args.ops.now c.args.call c.in-Some.graph c.args.change.now.change c.args.number
    c.in-Some-set_of.set c.args.operation.now c.args.from c.in-Some-set_in.plan.now c.in-Some.ensures.found c.in-Some-set_in.ensures.found (c.in_ok-is_on_set.ensures c.if-not-branch.false) (c.is_from.ensures c.if-not-is_from.false)
    (c.in_ok-yes.ensures.sound yes)
