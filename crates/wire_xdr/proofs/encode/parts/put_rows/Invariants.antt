use Rattle.std.proofs.Common.{◌≡◌, ◌++◌, take, length}
use Rattle.wire_xdr.specs.Xdr.{unit, texts}
use Rattle.wire_xdr.specs.MessageText.{row_text}
use Rattle.wire_xdr.proofs.encode.parts.put_rows.Given as goal

abbrev pub invariant-loop-row : goal.invariant-loop-row
invariant-loop-row l = l.out.items ≡ l.initial.out.items ++ texts row_text (take l.row-index l.rows)
