use Rattle.std.proofs.Common.{◌≡◌, ◌≤◌, ◌+◌, ◌-◌, ◌^◌, min, drop, length}
use Rattle.wire_xdr.specs.Xdr.{texts}
use Rattle.wire_xdr.specs.PartText.{attr_text}
use Rattle.wire_xdr.proofs.encode.lengths.attrs_len.Given as goal

abbrev pub invariant-loop-attr : goal.invariant-loop-attr
invariant-loop-attr l = (l.total ≤ 2 ^ 64 - 1) × (min (l.total + length (texts attr_text (drop l.attr-index l.attrs))) (2 ^ 64 - 1) ≡ min (4 + length (texts attr_text l.attrs)) (2 ^ 64 - 1))
