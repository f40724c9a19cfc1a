use Rattle.std.proofs.Common.{◌≡◌, ◌≤◌, ◌+◌, ◌-◌, ◌^◌, min, drop, length}
use Rattle.wire_xdr.specs.Xdr.{texts}
use Rattle.wire_xdr.specs.MessageText.{row_text}
use Rattle.wire_xdr.proofs.encode.lengths.rows_len.Given as goal

abbrev pub invariant-loop-row : goal.invariant-loop-row
invariant-loop-row l = (l.total ≤ 2 ^ 64 - 1) × (min (l.total + length (texts row_text (drop l.row-index l.rows))) (2 ^ 64 - 1) ≡ min (4 + length (texts row_text l.rows)) (2 ^ 64 - 1))
