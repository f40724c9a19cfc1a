use Rattle.std.proofs.Common.{ℕ}
use Rattle.line_audit.specs.Linked.{IsLinked}
use Rattle.line_audit.proofs.Wanting.{up_to_next}
use Rattle.line_audit.proofs.linked.all_pass.Goals as goal

pub loop-k-preserved : goal.loop-k-preserved
loop-k-preserved c = (
  up_to_next (λ (number : ℕ). IsLinked c.args.script.now c.args.plans.now c.args.log.now number) c.loop-k.k (c.in_ok-next_passes.ensures.linked c.if-not-branch-2.false) c.loop-k.invariant.0,
  c.in_ok-next_passes.ensures.known c.if-not-branch-2.false,
)
