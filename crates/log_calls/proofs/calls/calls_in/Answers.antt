use Rattle.std.proofs.Common.{◌+◌}
use Rattle.log_calls.specs.Events.{submitter}
use Rattle.log_calls.specs.Gathering.{Gathers}
use Rattle.log_calls.proofs.Calling.{gathered_next}
use Rattle.log_calls.proofs.calls.calls_in.Goals as goal

pub loop-at-preserved : goal.loop-at-preserved
loop-at-preserved c =
    let gathers : Gathers c.args.script.now (submitter c.index-events-at.result) (c.loop-at.at + 1) c.loop-at.gathered c.gather.new.self =
    c.in_ok-gather.ensures c.if-not-branch.false in
    gathered_next c.args.script.now c.args.events.now c.loop-at.at c.index-events-at.result c.loop-at-test.true c.index-events-at.is c.loop-at.gathered c.gather.new.self gathers c.loop-at.invariant
