use Rattle.history_replay.specs.code.Runs.{HasRun}
use Rattle.history_replay.proofs.steps.run_all.Given as goal

abbrev pub invariant-loop-step : goal.invariant-loop-step
invariant-loop-step l = HasRun l.run l.replies l.yielded
