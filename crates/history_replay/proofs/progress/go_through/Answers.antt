use Rattle.std.proofs.Common.{ap}
use Rattle.std.specs.Prelude.{Some}
use Rattle.history_replay.specs.Traces.{Trace}
use Rattle.history_replay.specs.code.Runs.{after_calls, state_of}
use Rattle.history_replay.proofs.Adding.{calls_next}
use Rattle.history_replay.proofs.progress.go_through.Goals as goal

pub loop-call-preserved : goal.loop-call-preserved
loop-call-preserved c =
    calls_next c.args.trace.now c.args.f.now c.args.count (state_of c.loop-call.p) (state_of c.go_on.new.p)
    (after_calls c.args.trace.now c.args.f.now c.args.count (Some (state_of c.args.p.now)) c.args.trace.now.calls) c.trace.inside.calls.now c.loop-call.call-index c.call-item.result
    c.in_ok-go_on.field-0 (ap (λ (t : Trace). t.calls) c.trace.view_is) c.loop-call-test.true c.call-item.is c.if-not-branch.false c.in_ok-go_on.ensures
    c.loop-call.invariant
