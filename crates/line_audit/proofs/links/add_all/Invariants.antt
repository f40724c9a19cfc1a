use Rattle.std.proofs.Common.{◌≡◌, drop}
use Rattle.line_audit.specs.Linked.{added}
use Rattle.line_audit.proofs.links.add_all.Given as goal

abbrev pub invariant-loop-item : goal.invariant-loop-item
invariant-loop-item l = added (drop l.item-index l.items) l.links.items ≡ added l.items l.fn.links.items
