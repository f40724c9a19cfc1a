use Rattle.std.proofs.Common.{◌≡◌, ◌++◌, length, map, drop, replicate}
use Rattle.history_replay.specs.Reports.{since_from}
use Rattle.history_replay.proofs.judging.since_of.Given as goal

abbrev pub invariant-loop-at : goal.invariant-loop-at
invariant-loop-at l = record {
  long : length l.reached.items ≡ 256;
  so_far :
      l.since.items ++ since_from l.reached.items (map (λ x. x.session) (drop l.at l.lines)) (map (λ x. x.places) (drop l.at l.calls))
      ≡ since_from (replicate 256 0) (map (λ x. x.session) l.lines) (map (λ x. x.places) l.calls);
}
