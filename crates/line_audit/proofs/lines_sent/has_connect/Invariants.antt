use Rattle.std.proofs.Common.{◌≡◌, drop}
use Rattle.line_audit.specs.Linked.{has_connect}
use Rattle.line_audit.proofs.lines_sent.has_connect.Given as goal

abbrev pub invariant-loop-item : goal.invariant-loop-item
invariant-loop-item l = has_connect l.graph l.brick (drop l.item-index l.items) ≡ has_connect l.graph l.brick l.items
