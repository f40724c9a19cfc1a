use Rattle.std.proofs.Common.{◌≡◌, ◌++◌, take, length}
use Rattle.wire_xdr.specs.Xdr.{unit, texts}
use Rattle.wire_xdr.specs.PartText.{cell_text}
use Rattle.wire_xdr.proofs.encode.parts.put_cells.Given as goal

abbrev pub invariant-loop-cell : goal.invariant-loop-cell
invariant-loop-cell l = l.out.items ≡ l.initial.out.items ++ texts cell_text (take l.cell-index l.cells)
