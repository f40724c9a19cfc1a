use Rattle.std.proofs.Common.{arith}
use Rattle.wire_xdr.specs.PartText.{item_text}
use Rattle.wire_xdr.proofs.Sizes.{list_len}
use Rattle.wire_xdr.proofs.encode.lengths.items_len.Goals as goal

pub returns : goal.returns
returns c = list_len item_text c.args.items.now c.loop-item.item-index c.loop-item.total (omega arith) (c.loop-item.invariant.0) (c.loop-item.invariant.1)
