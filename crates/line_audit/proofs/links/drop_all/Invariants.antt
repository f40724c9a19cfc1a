use Rattle.std.proofs.Common.{◌≡◌, drop}
use Rattle.line_audit.specs.Linked.{dropped}
use Rattle.line_audit.proofs.links.drop_all.Given as goal

abbrev pub invariant-loop-item : goal.invariant-loop-item
invariant-loop-item l = dropped (drop l.item-index l.items) l.links.items ≡ dropped l.items l.fn.links.items
