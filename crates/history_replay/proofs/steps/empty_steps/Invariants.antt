use Rattle.std.proofs.Common.{◌≡◌, length}
use Rattle.history_replay.proofs.steps.empty_steps.Given as goal

abbrev pub invariant-loop : goal.invariant-loop
invariant-loop l = length l.steps.items ≡ l.counter
