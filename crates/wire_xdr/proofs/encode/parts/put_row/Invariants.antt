use Rattle.std.proofs.Common.{◌≡◌, ◌++◌, take, length}
use Rattle.wire_xdr.specs.Xdr.{unit, texts}
use Rattle.wire_xdr.proofs.encode.parts.put_row.Given as goal

abbrev pub invariant-loop-counter : goal.invariant-loop-counter
invariant-loop-counter l = l.out.items ≡ l.initial.out.items ++ texts unit (take l.counter-index l.row.pending)
