use Rattle.std.proofs.Common.{ℕ, ◌<◌, ◌≤◌, get_or}
use Rattle.log_replay.proofs.lengths.are_rising.Given as goal

abbrev pub invariant-loop-at : goal.invariant-loop-at
invariant-loop-at l = record {
  one : 1 ≤ l.at;
  so_far : (i j : ℕ) → i ≤ j → j < l.at → get_or l.numbers i 0 ≤ get_or l.numbers j 0;
}
