use Rattle.std.proofs.lemmas.Option.{IfSome_then}
use Rattle.read_audit.proofs.Resting.{rests_for}
use Rattle.read_audit.proofs.taken.rests_for.Goals as goal

pub returns : goal.returns
returns c =
    IfSome_then c.in_ok-from.from c.in_ok-from.ensures
    (λ from rests. rests_for c.args.run.now.script.now c.args.run.now.plans.now c.args.run.now.log.now c.args.run.now.bricks.now c.args.ops.now c.args.calls.now c.args.call c.args.number c.in-Some.made.now c.args.operation.now from.set c.requires c.in-Some.ensures rests)
