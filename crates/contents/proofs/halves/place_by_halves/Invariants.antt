use Rattle.std.proofs.Common.{◌≤◌, ◌-◌, map, length}
use Rattle.contents.specs.Rising.{IsPast, IsBelow}
use Rattle.contents.proofs.halves.place_by_halves.Given as goal

abbrev pub invariant-loop-low : goal.invariant-loop-low
invariant-loop-low g l = record {
  order : l.low ≤ l.high;
  within : l.high ≤ length l.things;
  past : IsPast (map g.T.Named.name l.things) l.low l.name;
  below : IsBelow (map g.T.Named.name l.things) l.high l.name;
}

abbrev pub decreases-loop-low : goal.decreases-loop-low
decreases-loop-low g l = l.high - l.low
