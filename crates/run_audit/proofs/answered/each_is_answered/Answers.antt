use Rattle.std.proofs.Common.{◌≡◌, ◌<◌}
use Rattle.std.specs.Prelude.{ℕ, ◌+◌}
use Rattle.run_audit.specs.Counting.{IsAnsweredAt}
use Rattle.run_audit.proofs.Cutting.{each_below}
use Rattle.run_audit.proofs.answered.each_is_answered.Goals as goal

pub loop-i-preserved : goal.loop-i-preserved
loop-i-preserved c = each_below (λ (j : ℕ). IsAnsweredAt c.args.acts.now c.args.answers.now j) c.loop-i.i (c.is_answered.ensures.sound c.if-not-is_answered.false) c.loop-i.invariant
