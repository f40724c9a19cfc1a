use Rattle.contents.proofs.Orders.{attr_taken, attr_free}
use Rattle.contents.proofs.attrs.place_of_halved.Goals as goal

pub returns-in-Ok-clause-taken : goal.returns-in-Ok-clause-taken
returns-in-Ok-clause-taken c = attr_taken c.args.attrs.now c.args.attr.now c.in-Ok.index _ c.as_slice.ensures c.requires c.in-Ok.ensures.found

pub returns-in-Err-clause-free : goal.returns-in-Err-clause-free
returns-in-Err-clause-free c = attr_free c.args.attrs.now c.args.attr.now c.in-Err.index _ c.as_slice.ensures c.requires c.in-Err.ensures.free
