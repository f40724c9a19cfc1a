use Rattle.std.proofs.Common.{◌≡◌, None}
use Rattle.wire_xdr.specs.code.Parsers.{items_at}
use Rattle.wire_xdr.specs.code.Loops.{last_of, pushed}
use Rattle.wire_xdr.specs.code.PartParsers.{attr_at}
use Rattle.wire_xdr.proofs.decode.attrs.some_attrs.Given as goal

abbrev pub invariant-loop-left : goal.invariant-loop-left
invariant-loop-left l = pushed l.attrs.items (items_at attr_at (last_of l.attrs.items) l.left l.rest) ≡ items_at attr_at None l.count l.bytes

abbrev pub decreases-loop-left : goal.decreases-loop-left
decreases-loop-left l = l.left
