use Rattle.std.proofs.Common.{◌≡◌, refl, sym, ◌∙◌}
use Rattle.mount_log.specs.Causes.{IsLost}
use Rattle.error_audit.specs.Finding.{IsPairLost}
use Rattle.error_audit.proofs.Different.{all_next, all_read, all_taken}
use Rattle.error_audit.proofs.io_causes.are_lost.Goals as goal

pub loop-pair-preserved : goal.loop-pair-preserved
loop-pair-preserved c = record {
  lost = all_next (IsLost c.args.log.now c.args.plan.now c.args.reply.now.call c.args.reply.now.event) c.args.lost.now c.loop-pair.pair-index _ c.loop-pair-test.true c.loop-pair.invariant.lost
      (c.in_ok-is_pair_lost.ensures.sound c.if-not-branch.false);
  found = all_next (IsPairLost c.args.log.now c.args.tables.now c.args.plan.now c.args.span c.args.reply.now.event) c.args.lost.now c.loop-pair.pair-index _ c.loop-pair-test.true c.loop-pair.invariant.found
      (c.in_ok-is_pair_lost.ensures.exact.0 c.if-not-branch.false);
}

pub returns-clause-exact : goal.returns-clause-exact
returns-clause-exact c = (
  λ _. all_taken (IsPairLost c.args.log.now c.args.tables.now c.args.plan.now c.args.span c.args.reply.now.event) c.args.lost.now c.loop-pair.pair-index c.loop-pair-test.false c.loop-pair.invariant.found,
  λ _. refl,
)

pub returns-then-not-branch-clause-exact : goal.returns-then-not-branch-clause-exact
returns-then-not-branch-clause-exact c = (
  λ no. absurd cc,
  λ all. sym c.if-not-branch.true
      ∙ c.in_ok-is_pair_lost.ensures.exact.1 (all_read (IsPairLost c.args.log.now c.args.tables.now c.args.plan.now c.args.span c.args.reply.now.event) c.args.lost.now c.loop-pair.pair-index _ c.loop-pair-test.true all),
)
