use Rattle.std.proofs.Common.{◌+◌, ◌++◌, drop}
use Rattle.mount_log.specs.Phases.{opened_in}
use Rattle.mount_log.proofs.Lists.{grown}
use Rattle.run_audit.proofs.numbers.add_opened.Goals as goal

pub loop-line-preserved : goal.loop-line-preserved
loop-line-preserved c =
    let rest = opened_in (drop (c.loop-line.line-index + 1) c.args.winds.now) in
    grown opened_in c.args.winds.now c.loop-line.line-index _ c.loop-line.numbers c.push_if.new.numbers rest (c.args.numbers.now ++ opened_in c.args.winds.now)
    c.loop-line-test.true (c.in_ok-push_if.ensures rest) c.loop-line.invariant
