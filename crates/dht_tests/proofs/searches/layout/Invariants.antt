use Rattle.std.proofs.Common.{◌≡◌, length}
use Rattle.dht_tests.proofs.searches.layout.Given as goal

abbrev pub invariant-loop-set : goal.invariant-loop-set
invariant-loop-set l = length l.spans.items ≡ l.set
