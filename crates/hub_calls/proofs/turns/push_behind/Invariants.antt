use Rattle.std.proofs.Common.{◌≡◌, ◌++◌, drop}
use Rattle.hub_calls.proofs.turns.push_behind.Given as goal

abbrev pub invariant-loop-at : goal.invariant-loop-at
invariant-loop-at l = l.entries ++ drop l.at l.history ≡ l.fn.entries ++ drop l.fn.first l.fn.history
