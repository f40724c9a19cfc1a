use Rattle.std.proofs.Common.{arith}
use Rattle.wire_xdr.specs.MessageText.{row_text}
use Rattle.wire_xdr.proofs.Sizes.{list_len}
use Rattle.wire_xdr.proofs.encode.lengths.rows_len.Goals as goal

pub returns : goal.returns
returns c = list_len row_text c.args.rows.now c.loop-row.row-index c.loop-row.total (omega arith) (c.loop-row.invariant.0) (c.loop-row.invariant.1)
