use Rattle.std.proofs.Common.{◌≡◌}
use Rattle.mount_log.specs.Causes.{brick_of}
use Rattle.error_audit.proofs.Different.{not_distinct}
use Rattle.error_audit.proofs.enough.push_failed.Goals as goal

pub returns-then-not-branch-clause-refused : goal.returns-then-not-branch-clause-refused
returns-then-not-branch-clause-refused c = λ _ different.
    not_distinct brick_of c.args.faults.now c.loop-pair.pair-index _ c.args.bricks.now.items c.loop-pair.bricks.items c.loop-pair-test.true c.loop-pair.invariant.0 (c.in_ok-push_new.ensures.refused c.if-not-branch.true) different
