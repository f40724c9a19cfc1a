use Rattle.std.proofs.Common.{◌≡◌, refl, sym, ◌∙◌}
use Rattle.mount_log.specs.Causes.{IsFaulted}
use Rattle.error_audit.specs.AtPlaces.{IsFaultAmong}
use Rattle.error_audit.proofs.Different.{all_next, all_read, all_taken}
use Rattle.error_audit.proofs.io_causes.are_faulted.Goals as goal

pub loop-pair-preserved : goal.loop-pair-preserved
loop-pair-preserved c = record {
  faulted = all_next (IsFaulted c.args.log.now c.args.plan.now c.args.reply.now.call c.args.reply.now.event) c.args.faults.now c.loop-pair.pair-index _ c.loop-pair-test.true c.loop-pair.invariant.faulted
      (c.in_ok-is_fault_found.ensures.sound c.if-not-branch.false);
  among = all_next (IsFaultAmong c.args.log.now c.args.plan.now c.args.reply.now.call c.args.reply.now.event c.args.found.now) c.args.faults.now c.loop-pair.pair-index _ c.loop-pair-test.true c.loop-pair.invariant.among
      (c.in_ok-is_fault_found.ensures.exact.0 c.if-not-branch.false);
}

pub returns-clause-exact : goal.returns-clause-exact
returns-clause-exact c = (
  λ _. all_taken (IsFaultAmong c.args.log.now c.args.plan.now c.args.reply.now.call c.args.reply.now.event c.args.found.now) c.args.faults.now c.loop-pair.pair-index c.loop-pair-test.false c.loop-pair.invariant.among,
  λ _. refl,
)

pub returns-then-not-branch-clause-exact : goal.returns-then-not-branch-clause-exact
returns-then-not-branch-clause-exact c = (
  λ no. absurd cc,
  λ all. sym c.if-not-branch.true
      ∙ c.in_ok-is_fault_found.ensures.exact.1 (all_read (IsFaultAmong c.args.log.now c.args.plan.now c.args.reply.now.call c.args.reply.now.event c.args.found.now) c.args.faults.now c.loop-pair.pair-index _ c.loop-pair-test.true all),
)
