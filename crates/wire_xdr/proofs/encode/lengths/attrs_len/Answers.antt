use Rattle.std.proofs.Common.{arith}
use Rattle.wire_xdr.specs.PartText.{attr_text}
use Rattle.wire_xdr.proofs.Sizes.{list_len}
use Rattle.wire_xdr.proofs.encode.lengths.attrs_len.Goals as goal

pub returns : goal.returns
returns c = list_len attr_text c.args.attrs.now c.loop-attr.attr-index c.loop-attr.total (omega arith) (c.loop-attr.invariant.0) (c.loop-attr.invariant.1)
