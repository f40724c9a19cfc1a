use Rattle.std.proofs.Common.{◌≡◌, drop}
use Rattle.fop_types.specs.Names.{has_real_name}
use Rattle.read_audit.proofs.missing.has_real_name.Given as goal

abbrev pub invariant-loop-item : goal.invariant-loop-item
invariant-loop-item l = has_real_name (drop l.item-index l.items) ≡ has_real_name l.items
