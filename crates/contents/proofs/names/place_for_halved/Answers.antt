use Rattle.contents.proofs.Orders.{item_taken, item_free}
use Rattle.contents.proofs.names.place_for_halved.Goals as goal

pub returns-in-Ok-clause-taken : goal.returns-in-Ok-clause-taken
returns-in-Ok-clause-taken c = item_taken c.args.items.now c.args.item.now c.in-Ok.index _ c.as_slice.ensures c.requires c.in-Ok.ensures.found

pub returns-in-Err-clause-free : goal.returns-in-Err-clause-free
returns-in-Err-clause-free c = item_free c.args.items.now c.args.item.now c.in-Err.index _ c.as_slice.ensures c.requires c.in-Err.ensures.free
