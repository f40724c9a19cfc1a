use Rattle.std.proofs.Common.{◌≡◌, None}
use Rattle.wire_xdr.specs.code.Parsers.{items_at}
use Rattle.wire_xdr.specs.code.Loops.{last_of, pushed}
use Rattle.wire_xdr.specs.code.PartParsers.{item_at}
use Rattle.wire_xdr.proofs.decode.items.some_items.Given as goal

abbrev pub invariant-loop-left : goal.invariant-loop-left
invariant-loop-left l = pushed l.items.items (items_at item_at (last_of l.items.items) l.left l.rest) ≡ items_at item_at None l.count l.bytes

abbrev pub decreases-loop-left : goal.decreases-loop-left
decreases-loop-left l = l.left
