-- The bits so far mark the pieces below k that differ.
use Rattle.std.proofs.Common.{◌≡◌}
use Rattle.std.specs.Prelude.{◌≢◌}
use Rattle.lane_scan.specs.Blocks.{piece}
use Rattle.lane_scan.proofs.MarkedBits.{Marked}
use Rattle.lane_scan.proofs.plain.differ.Given as goal

abbrev pub invariant-loop-k : goal.invariant-loop-k
invariant-loop-k l = Marked (λ k. piece k l.a ≢ piece k l.b) (λ k. piece k l.a ≡ piece k l.b) l.bits l.k
