use Rattle.std.proofs.Common.{sym, ◌∙◌}
use Rattle.line_audit.specs.Linked.{IsItemDue}
use Rattle.line_audit.proofs.Firsts.{all_get}
use Rattle.line_audit.proofs.event_links.are_due.Goals as goal

pub returns-then-not-is_item_due-clause-complete : goal.returns-then-not-is_item_due-clause-complete
returns-then-not-is_item_due-clause-complete c = λ slots order all.
    sym c.if-not-is_item_due.true
    ∙ c.is_item_due.ensures.complete slots order
    (all_get (IsItemDue c.args.log.now c.args.plans.now c.args.tables.now c.args.known.now c.args.now c.args.items.now) c.args.items.now c.loop-item.item-index _ c.loop-item-test.true all)
