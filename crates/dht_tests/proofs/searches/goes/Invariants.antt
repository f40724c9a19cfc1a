use Rattle.std.proofs.Common.{◌≡◌, Some}
use Rattle.dht_tests.proofs.searches.goes.Given as goal

abbrev pub invariant-loop-place : goal.invariant-loop-place
invariant-loop-place l = l.lookup.asked ≡ Some l.set
