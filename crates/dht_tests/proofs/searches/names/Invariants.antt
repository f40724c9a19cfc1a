use Rattle.std.proofs.Common.{◌≡◌, length}
use Rattle.dht_tests.proofs.searches.names.Given as goal

abbrev pub invariant-loop-set : goal.invariant-loop-set
invariant-loop-set l = length l.names.items ≡ l.set
