use Rattle.std.proofs.Common.{◌≡◌, drop}
use Rattle.line_audit.specs.Linked.{has_disconnect}
use Rattle.line_audit.proofs.lines_sent.has_disconnect.Given as goal

abbrev pub invariant-loop-item : goal.invariant-loop-item
invariant-loop-item l = has_disconnect l.graph l.brick (drop l.item-index l.items) ≡ has_disconnect l.graph l.brick l.items
