use Rattle.std.proofs.Common.{◌≡◌, ◌≤◌, ◌-◌, map, length, drop}
use Rattle.contents.specs.Rising.{are_rising}
use Rattle.contents.proofs.halves.rise.Given as goal

abbrev pub invariant-loop-at : goal.invariant-loop-at
invariant-loop-at g l = record {
  low : 1 ≤ l.at;
  so_far : are_rising (drop (l.at - 1) (map g.T.Named.name l.things)) ≡ are_rising (map g.T.Named.name l.things);
}

abbrev pub decreases-loop-at : goal.decreases-loop-at
decreases-loop-at g l = length l.things - l.at
