-- What is left from this set on is what is left in all.
use Rattle.std.proofs.Common.{◌≡◌}
use Rattle.dht_linkto.specs.Cursor.{left_from}
use Rattle.dht_linkto.proofs.sets.first_left.Given as goal

abbrev pub invariant-loop-set : goal.invariant-loop-set
invariant-loop-set l = left_from l.first l.count l.hashed l.linked ≡ left_from l.set l.count l.hashed l.linked
