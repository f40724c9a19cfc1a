use Rattle.lane_scan.proofs.LaneMasks.{zero_by_mask}
use Rattle.lane_scan.proofs.Pieces.{length_piece}
use Rattle.lane_scan.specs.Blocks.{piece}
use Rattle.lane_scan.proofs.lanes.piece_is_zero.Goals as goal

pub returns : goal.returns
returns c = zero_by_mask (piece c.args.k c.args.block.now) (length_piece c.args.k c.args.block.now c.requires)
