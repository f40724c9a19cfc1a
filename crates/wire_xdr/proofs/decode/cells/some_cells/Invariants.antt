use Rattle.std.proofs.Common.{◌≡◌, None}
use Rattle.wire_xdr.specs.code.Parsers.{items_at}
use Rattle.wire_xdr.specs.code.Loops.{last_of, pushed}
use Rattle.wire_xdr.specs.code.PartParsers.{rising_cell}
use Rattle.wire_xdr.proofs.decode.cells.some_cells.Given as goal

abbrev pub invariant-loop-left : goal.invariant-loop-left
invariant-loop-left l = pushed l.cells.items (items_at rising_cell (last_of l.cells.items) l.left l.rest) ≡ items_at rising_cell None l.count l.bytes

abbrev pub decreases-loop-left : goal.decreases-loop-left
decreases-loop-left l = l.left
