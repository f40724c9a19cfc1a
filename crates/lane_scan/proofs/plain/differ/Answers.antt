use Rattle.std.proofs.Common.{arith}
use Rattle.lane_scan.proofs.MarkedBits.{marked_yes, marked_no, marked_to}
use Rattle.lane_scan.proofs.Pieces.{marks, same_blocks}
use Rattle.lane_scan.proofs.plain.differ.Goals as goal
use Rattle.lane_scan.proofs.plain.differ.Goals.{then-piece_differs, else-piece_differs}

pub loop-k-preserved : goal.loop-k-preserved
loop-k-preserved c = elim c.if-piece_differs.branch [
  | then-piece_differs w ↦ marked_yes _ _ _ _ _ _ c.loop-k-test.true c.piece_differs.ensures w.if-piece_differs.true w.bits-is c.loop-k.invariant
  | else-piece_differs w ↦ marked_no _ _ _ _ _ _ c.piece_differs.ensures w.if-piece_differs.false w.bits-is c.loop-k.invariant
]

pub returns-clause-marks : goal.returns-clause-marks
returns-clause-marks c = marks _ _ _ c.told-a c.told-b (marked_to _ _ _ _ 64 (omega arith) c.loop-k.invariant)

pub returns-clause-same : goal.returns-clause-same
returns-clause-same c = same_blocks _ _ _ c.told-a c.told-b (marked_to _ _ _ _ 64 (omega arith) c.loop-k.invariant)
