use Rattle.contents.proofs.Orders.{item_there, item_absent}
use Rattle.contents.proofs.names.place_halved.Goals as goal

pub returns-in-Ok-clause-found : goal.returns-in-Ok-clause-found
returns-in-Ok-clause-found c = item_there c.args.items.now c.args.name.now c.in-Ok.index c.requires c.in-Ok.ensures.found

pub returns-in-Err-clause-none : goal.returns-in-Err-clause-none
returns-in-Err-clause-none c = item_absent c.args.items.now c.args.name.now _ c.requires c.in-Err.ensures.free
