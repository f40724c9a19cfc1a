use Rattle.std.proofs.Common.{◌≡◌, drop}
use Rattle.std.specs.Prelude.{Some}
use Rattle.history_replay.specs.code.Runs.{after_calls, state_of}
use Rattle.history_replay.proofs.progress.go_through.Given as goal

abbrev pub invariant-loop-call : goal.invariant-loop-call
invariant-loop-call l =
    after_calls l.trace l.f l.count (Some (state_of l.p)) (drop l.call-index l.trace.calls) ≡ after_calls l.trace l.f l.count (Some (state_of l.fn.p)) l.trace.calls
