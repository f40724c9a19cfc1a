use Rattle.std.proofs.Common.{refl}
use Rattle.read_audit.proofs.Reaching.{none_reached}
use Rattle.read_audit.proofs.reached.reached_by.Goals as goal

pub loop-init : goal.loop-init
loop-init c = none_reached c.args.run.now.script.now c.args.run.now.plans.now c.args.run.now.log.now c.args.run.now.bricks.now c.args.by.call c.args.by.number c.args.path.now _ c.new-all.result.items c.push.new.self.items c.root.result c.root.ensures refl c.new-all.ensures.items c.in_ok-push.ensures.items
