use Rattle.lane_scan.proofs.LaneMasks.{apart_by_mask}
use Rattle.lane_scan.proofs.Pieces.{length_piece}
use Rattle.lane_scan.specs.Blocks.{piece}
use Rattle.lane_scan.proofs.lanes.piece_differs.Goals as goal

pub returns : goal.returns
returns c = apart_by_mask (piece c.args.k c.args.a.now) (piece c.args.k c.args.b.now) (length_piece c.args.k c.args.a.now c.requires.a) (length_piece c.args.k c.args.b.now c.requires.b)
