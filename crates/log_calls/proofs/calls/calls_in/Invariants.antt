use Rattle.log_calls.specs.Gathering.{HasGathered}
use Rattle.log_calls.proofs.calls.calls_in.Given as goal

abbrev pub invariant-loop-at : goal.invariant-loop-at
invariant-loop-at l = HasGathered l.script l.events l.at l.gathered
