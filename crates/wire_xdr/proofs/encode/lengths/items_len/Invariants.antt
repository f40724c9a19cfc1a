use Rattle.std.proofs.Common.{◌≡◌, ◌≤◌, ◌+◌, ◌-◌, ◌^◌, min, drop, length}
use Rattle.wire_xdr.specs.Xdr.{texts}
use Rattle.wire_xdr.specs.PartText.{item_text}
use Rattle.wire_xdr.proofs.encode.lengths.items_len.Given as goal

abbrev pub invariant-loop-item : goal.invariant-loop-item
invariant-loop-item l = (l.total ≤ 2 ^ 64 - 1) × (min (l.total + length (texts item_text (drop l.item-index l.items))) (2 ^ 64 - 1) ≡ min (4 + length (texts item_text l.items)) (2 ^ 64 - 1))
