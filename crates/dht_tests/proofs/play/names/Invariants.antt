-- As many names as sets so far.
use Rattle.std.proofs.Common.{◌≡◌, length}
use Rattle.dht_tests.proofs.play.names.Given as goal

abbrev pub invariant-loop-set : goal.invariant-loop-set
invariant-loop-set l = length l.names.items ≡ l.set
