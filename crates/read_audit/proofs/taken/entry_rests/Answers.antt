use Rattle.std.proofs.lemmas.Option.{IfSome_then}
use Rattle.read_audit.proofs.Resting.{entry_is}
use Rattle.read_audit.proofs.taken.entry_rests.Goals as goal

pub returns : goal.returns
returns c =
    IfSome_then c.in_ok-from.from c.in_ok-from.ensures
    (λ from rests. entry_is c.args.run.now.script.now c.args.run.now.plans.now c.args.run.now.log.now c.args.run.now.bricks.now c.args.ops.now c.args.k c.in-Some.entry c.in-Some-op_at.operation.now from.set c.in-Some.ensures c.in-Some-op_at.ensures rests)
