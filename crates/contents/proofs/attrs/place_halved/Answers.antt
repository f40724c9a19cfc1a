use Rattle.contents.proofs.Orders.{attr_there, attr_absent}
use Rattle.contents.proofs.attrs.place_halved.Goals as goal

pub returns-in-Ok-clause-found : goal.returns-in-Ok-clause-found
returns-in-Ok-clause-found c = attr_there c.args.attrs.now c.args.name.now c.in-Ok.index c.requires c.in-Ok.ensures.found

pub returns-in-Err-clause-none : goal.returns-in-Err-clause-none
returns-in-Err-clause-none c = attr_absent c.args.attrs.now c.args.name.now _ c.requires c.in-Err.ensures.free
