use Rattle.std.proofs.Common.{refl, ◌∙◌, ◌+◌, ◌++◌, drop}
use Rattle.mount_log.specs.Phases.{owed_in}
use Rattle.mount_log.proofs.Lists.{grown_by}
use Rattle.run_audit.proofs.Pushing.{same_test}
use Rattle.run_audit.proofs.numbers.add_owed.Goals as goal

pub loop-line-preserved : goal.loop-line-preserved
loop-line-preserved c =
    let rest = owed_in (drop (c.loop-line.line-index + 1) c.args.sent.now) in
    grown_by owed_in c.args.sent.now c.args.sent.now c.loop-line.line-index c.line-item.result c.loop-line.numbers c.push_if.new.numbers rest (c.args.numbers.now ++ owed_in c.args.sent.now)
    refl c.loop-line-test.true c.line-item.is (c.in_ok-push_if.ensures rest ∙ same_test c.loop-line.numbers rest _ _ _ c.in_ok-owed.ensures) c.loop-line.invariant
