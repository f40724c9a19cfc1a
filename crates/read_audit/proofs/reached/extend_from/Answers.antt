use Rattle.read_audit.proofs.Reaching.{reached_is}
use Rattle.read_audit.proofs.reached.extend_from.Goals as goal

pub extend-requires-clause-from : goal.extend-requires-clause-from
extend-requires-clause-from c = reached_is c.args.run.now.script.now c.args.run.now.plans.now c.args.run.now.log.now c.args.run.now.bricks.now c.args.by.call c.args.by.number c.args.path.now c.loop-k.all.items c.as_slice.result.now c.loop-k.k _ c.in-Some.reached c.as_slice.ensures.value c.reached_at.ensures c.in-Some.is c.loop-k.invariant
