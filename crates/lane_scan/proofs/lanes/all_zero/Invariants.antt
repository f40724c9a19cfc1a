-- The pieces so far are all zeros.
use Rattle.std.proofs.Common.{ℕ, ◌<◌}
use Rattle.lane_scan.specs.Blocks.{piece, IsZero}
use Rattle.lane_scan.proofs.lanes.all_zero.Given as goal

abbrev pub invariant-loop-k : goal.invariant-loop-k
invariant-loop-k l = (j : ℕ) → j < l.k → IsZero (piece j l.block)
