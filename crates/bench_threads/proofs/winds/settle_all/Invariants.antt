use Rattle.std.proofs.Common.{◌≤◌}
use Rattle.wind_words.specs.Calls.{IsSamePass}
use Rattle.bench_threads.proofs.winds.settle_all.Given as goal

abbrev pub invariant-loop-slot : goal.invariant-loop-slot
invariant-loop-slot l = record { same : IsSamePass l.fn.pass l.pass; few : l.won ≤ l.slot }
