use Rattle.std.proofs.Common.{◌≡◌, drop}
use Rattle.fop_types.specs.Names.{attr_named}
use Rattle.contents.proofs.attrs.find_attr.Given as goal

abbrev pub invariant-loop-attr : goal.invariant-loop-attr
invariant-loop-attr l = attr_named (drop l.attr-index l.attrs) l.name ≡ attr_named l.attrs l.name
