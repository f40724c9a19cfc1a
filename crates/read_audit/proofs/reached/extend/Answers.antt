use Rattle.std.proofs.Common.{refl, arith}
use Rattle.read_audit.proofs.Reaching.{reached_next}
use Rattle.read_audit.proofs.reached.extend.Goals as goal

pub loop-at-preserved : goal.loop-at-preserved
loop-at-preserved c =
    reached_next c.args.run.now.script.now c.args.run.now.plans.now c.args.run.now.log.now c.args.run.now.bricks.now c.args.by.call c.args.by.number c.args.path.now c.args.from _ c.index-path-from.result c.in-Some.object c.in_ok-to.to c.loop-at.all.items c.push.new.self.items (omega (arith, c.if-from-path.false)) c.index-path-from.is c.in-Some.is
    c.in_ok-to.ensures refl c.in_ok-push.ensures.items c.requires.from c.loop-at.invariant
