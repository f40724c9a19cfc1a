use Rattle.std.proofs.Common.{◌≡◌, ◌≤◌, ◌+◌, drop}
use Rattle.line_audit.specs.Linked.{count_connects}
use Rattle.line_audit.proofs.lines_sent.count_connects.Given as goal

abbrev pub invariant-loop-item : goal.invariant-loop-item
invariant-loop-item l = (l.count + count_connects l.graph l.brick (drop l.item-index l.items) ≡ count_connects l.graph l.brick l.items) × (l.count ≤ l.item-index)
