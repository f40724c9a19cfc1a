use Rattle.std.proofs.Common.{ℕ, arith}
use Rattle.read_audit.specs.Errors.{IsNotOn}
use Rattle.read_audit.proofs.Absent.{below_next}
use Rattle.read_audit.proofs.missing.is_on_none.Goals as goal

pub loop-set-preserved : goal.loop-set-preserved
loop-set-preserved c = below_next (λ (s : ℕ). IsNotOn c.args.run.now.script.now c.args.run.now.plans.now c.args.run.now.log.now c.args.run.now.bricks.now c.args.by.call c.args.by.number c.args.dir c.args.name.now s) c.loop-set.set (c.in_ok-is_not_on.ensures c.if-not-branch.false) c.loop-set.invariant

pub returns : goal.returns
returns c = λ _ s lt. c.loop-set.invariant s (omega (arith, lt, c.loop-set-test.false))
