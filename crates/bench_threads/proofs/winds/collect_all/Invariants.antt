use Rattle.std.proofs.Common.{◌≤◌}
use Rattle.wind_words.specs.Calls.{IsSamePass}
use Rattle.bench_threads.proofs.winds.collect_all.Given as goal

abbrev pub invariant-loop-slot : goal.invariant-loop-slot
invariant-loop-slot l = record { same : IsSamePass l.fn.hub l.hub; few : l.collected ≤ l.slot }
