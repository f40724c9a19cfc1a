use Rattle.std.proofs.Common.{◌≡◌, length, take}
use Rattle.history_replay.proofs.lines.same_lines.Given as goal

abbrev pub invariant-loop-at : goal.invariant-loop-at
invariant-loop-at l = record {
  long : length l.one ≡ length l.other;
  so_far : take l.at l.one ≡ take l.at l.other;
}
