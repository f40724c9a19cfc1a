use Rattle.std.proofs.Common.{◌≡◌, length, take}
use Rattle.history_replay.proofs.same.same_names.Given as goal

abbrev pub invariant-loop-index : goal.invariant-loop-index
invariant-loop-index l = record {
  long : length l.one ≡ length l.other;
  so_far : take l.index l.one ≡ take l.index l.other;
}
