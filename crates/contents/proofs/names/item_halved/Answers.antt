use Rattle.std.proofs.Common.{◌∙◌}
use Rattle.contents.proofs.Orders.{item_found, item_missing}
use Rattle.contents.proofs.names.item_halved.Goals as goal

pub returns-in-Ok : goal.returns-in-Ok
returns-in-Ok c = c.thing_at.ensures ∙ item_found c.args.items.now c.args.name.now c.in-Ok.index c.requires c.in-Ok.ensures.found

pub returns-in-Err : goal.returns-in-Err
returns-in-Err c = item_missing c.args.items.now c.args.name.now _ c.requires c.in-Err.ensures.free
