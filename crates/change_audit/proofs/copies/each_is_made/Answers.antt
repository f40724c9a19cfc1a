use Rattle.std.proofs.Common.{length, ap, arith}
use Rattle.change_audit.proofs.Copying.{copies_next, all_made}
use Rattle.change_audit.proofs.copies.each_is_made.Goals as goal

pub loop-k-preserved : goal.loop-k-preserved
loop-k-preserved c =
    copies_next c.args.script.now c.args.plans.now c.args.log.now c.args.bricks.now c.loop-k.k c.loop-k.claims c.take_copy.new.claims
    c.in_ok-take_copy.ensures.keeps (c.in_ok-take_copy.ensures.claimed c.if-not-branch.false) c.loop-k.invariant

pub returns-clause-sound : goal.returns-clause-sound
returns-clause-sound c = λ _.
    all_made c.args.script.now c.args.plans.now c.args.log.now c.args.bricks.now c.loop-k.k c.loop-k.claims c.requires.copied c.requires.skipped
    (omega (arith, c.loop-k-test.false, c.len-k-end.ensures)) c.loop-k.invariant

pub returns-then-not-branch-clause-none : goal.returns-then-not-branch-clause-none
returns-then-not-branch-clause-none c = λ none. let long = ap length none in absurd (omega (arith, long, c.loop-k-test.true, c.len-k-end.ensures))
