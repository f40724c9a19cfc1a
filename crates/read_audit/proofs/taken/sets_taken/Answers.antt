use Rattle.std.proofs.Common.{arith}
use Rattle.read_audit.proofs.Resting.{none_rest, rest_next, all_rest}
use Rattle.read_audit.proofs.taken.sets_taken.Goals as goal

pub loop-k-init : goal.loop-k-init
loop-k-init c = none_rest c.args.run.now.script.now c.args.run.now.plans.now c.args.run.now.log.now c.args.run.now.bricks.now c.args.ops.now c.new-claims.result c.new-sets.result.items c.new-sets.ensures.items

pub loop-k-preserved : goal.loop-k-preserved
loop-k-preserved c =
    rest_next c.args.run.now.script.now c.args.run.now.plans.now c.args.run.now.log.now c.args.run.now.bricks.now c.args.ops.now c.loop-k.claims c.entry_taken.new.claims c.loop-k.k c.loop-k.sets.items c.push.new.self.items c.in_ok-found.found c.in-Some.from
    c.in_ok-found.ensures.keeps c.in_ok-push.ensures.items c.in-Some.is c.in_ok-found.ensures.rests c.in_ok-found.ensures.claimed c.loop-k.invariant

pub returns : goal.returns
returns c = all_rest c.args.run.now.script.now c.args.run.now.plans.now c.args.run.now.log.now c.args.run.now.bricks.now c.args.ops.now c.loop-k.claims c.loop-k.k c.loop-k.sets.items c.from_vec.result (omega (arith, c.loop-k-test.false, c.len-k-end.ensures)) c.from_vec.ensures c.loop-k.invariant
