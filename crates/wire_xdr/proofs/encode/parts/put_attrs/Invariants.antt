use Rattle.std.proofs.Common.{◌≡◌, ◌++◌, take, length}
use Rattle.wire_xdr.specs.Xdr.{unit, texts}
use Rattle.wire_xdr.specs.PartText.{attr_text}
use Rattle.wire_xdr.proofs.encode.parts.put_attrs.Given as goal

abbrev pub invariant-loop-attr : goal.invariant-loop-attr
invariant-loop-attr l = l.out.items ≡ l.initial.out.items ++ texts attr_text (take l.attr-index l.attrs)
