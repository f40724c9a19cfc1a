use Rattle.history_replay.specs.code.Runs.{ArePut}
use Rattle.history_replay.proofs.steps.put_all.Given as goal

abbrev pub invariant-loop-claim : goal.invariant-loop-claim
invariant-loop-claim l = ArePut l.replies l.entries l.yielded l.steps.items
