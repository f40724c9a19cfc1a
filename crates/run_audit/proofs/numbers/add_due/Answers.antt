use Rattle.std.proofs.Common.{◌∙◌, ◌+◌, ◌++◌, drop}
use Rattle.mount_log.proofs.Lists.{grown}
use Rattle.run_audit.specs.Counting.{due_from}
use Rattle.run_audit.proofs.Pushing.{same_test}
use Rattle.run_audit.proofs.numbers.add_due.Goals as goal

pub loop-k-preserved : goal.loop-k-preserved
loop-k-preserved c =
    let rest = due_from (c.loop-k.k + 1 + 1) (drop (c.loop-k.k + 1) c.args.heads.now) in
    grown (due_from (c.loop-k.k + 1)) c.args.heads.now c.loop-k.k _ c.loop-k.numbers c.push_if.new.numbers rest (c.args.numbers.now ++ due_from 1 c.args.heads.now)
    c.loop-k-test.true (c.in_ok-push_if.ensures rest ∙ same_test c.loop-k.numbers rest _ _ _ c.is_due.ensures) c.loop-k.invariant
