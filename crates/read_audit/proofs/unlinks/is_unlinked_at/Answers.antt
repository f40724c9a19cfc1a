use Rattle.read_audit.proofs.Apart.{unlinked_is}
use Rattle.read_audit.proofs.unlinks.is_unlinked_at.Goals as goal

pub returns : goal.returns
returns c = λ yes. unlinked_is c.args.log.now c.args.ops.now c.args.call c.args.dir c.args.name.now c.args.place c.in-Some.entry c.in-Some-op_at.op.now c.in-Some.ensures c.in-Some-op_at.ensures (c.is_call.ensures c.if-not-is_call.false) (c.is_unlink.ensures.0 yes)
