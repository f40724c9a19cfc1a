use Rattle.std.proofs.Common.{◌≡◌, ◌++◌, take, length}
use Rattle.wire_xdr.specs.Xdr.{unit, texts}
use Rattle.wire_xdr.specs.PartText.{item_text}
use Rattle.wire_xdr.proofs.encode.parts.put_items.Given as goal

abbrev pub invariant-loop-item : goal.invariant-loop-item
invariant-loop-item l = l.out.items ≡ l.initial.out.items ++ texts item_text (take l.item-index l.items)
