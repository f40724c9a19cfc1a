use Rattle.std.proofs.Common.{take}
use Rattle.std.specs.List.{AllByRecursion}
use Rattle.line_audit.specs.Linked.{IsItemDue}
use Rattle.line_audit.proofs.event_links.are_due.Given as goal

abbrev pub invariant-loop-item : goal.invariant-loop-item
invariant-loop-item l = AllByRecursion (IsItemDue l.log l.plans l.tables l.known l.now l.items) (take l.item-index l.items)
