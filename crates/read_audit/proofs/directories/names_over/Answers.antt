use Rattle.std.proofs.Common.{arith}
use Rattle.read_audit.proofs.Listing.{have_none, have_next, have_all}
use Rattle.read_audit.proofs.directories.names_over.Goals as goal

pub loop-set-init : goal.loop-set-init
loop-set-init c = have_none c.args.run.now.script.now c.args.run.now.plans.now c.args.run.now.log.now c.args.run.now.bricks.now c.args.by.call c.args.by.number c.args.dir c.new-lists.result.items c.new-lists.ensures.items

pub loop-set-preserved : goal.loop-set-preserved
loop-set-preserved c =
    have_next c.args.run.now.script.now c.args.run.now.plans.now c.args.run.now.log.now c.args.run.now.bricks.now c.args.by.call c.args.by.number c.args.dir c.loop-set.set c.loop-set.lists.items c.push.new.self.items c.in-Some.items c.in_ok-names.names c.in_ok-push.ensures.items c.in-Some.is c.in_ok-names.ensures c.loop-set.invariant

pub returns : goal.returns
returns c = have_all c.args.run.now.script.now c.args.run.now.plans.now c.args.run.now.log.now c.args.run.now.bricks.now c.args.by.call c.args.by.number c.args.dir c.loop-set.set c.args.sets c.loop-set.lists.items c.from_vec.result (omega arith) c.from_vec.ensures c.loop-set.invariant
