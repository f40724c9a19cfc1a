use Rattle.std.proofs.Common.{◌≡◌, []}
use Rattle.wind_words.specs.Calls.{IsSamePass, IsUnusedFrom}
use Rattle.bench_threads.proofs.winds.open_all.Given as goal

abbrev pub invariant-loop-slot : goal.invariant-loop-slot
invariant-loop-slot l = record {
  same : IsSamePass l.fn.hub l.hub;
  collected : l.hub.view.collected ≡ [];
  unused : IsUnusedFrom l.hub.view l.slot;
}
