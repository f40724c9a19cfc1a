use Rattle.std.proofs.Common.{length, ap, arith}
use Rattle.change_audit.proofs.ListedCells.{skips_next, all_listed}
use Rattle.change_audit.proofs.skips.are_due.Goals as goal

pub loop-k-preserved : goal.loop-k-preserved
loop-k-preserved c = skips_next c.args.log.now c.args.bricks.now c.loop-k.k (c.is_due.ensures c.if-not-is_due.false) c.loop-k.invariant

pub returns-clause-sound : goal.returns-clause-sound
returns-clause-sound c = λ _. all_listed c.args.log.now c.args.bricks.now c.loop-k.k (omega (arith, c.loop-k-test.false, c.len-k-end.ensures)) c.loop-k.invariant

pub returns-then-not-is_due-clause-none : goal.returns-then-not-is_due-clause-none
returns-then-not-is_due-clause-none c = λ none. let long = ap length none in absurd (omega (arith, long, c.loop-k-test.true, c.len-k-end.ensures))
