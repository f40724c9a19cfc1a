use Rattle.std.proofs.Common.{◌∙◌}
use Rattle.contents.proofs.Orders.{attr_found, attr_missing}
use Rattle.contents.proofs.attrs.attr_halved.Goals as goal

pub returns-in-Ok : goal.returns-in-Ok
returns-in-Ok c = c.thing_at.ensures ∙ attr_found c.args.attrs.now c.args.name.now c.in-Ok.index c.requires c.in-Ok.ensures.found

pub returns-in-Err : goal.returns-in-Err
returns-in-Err c = attr_missing c.args.attrs.now c.args.name.now _ c.requires c.in-Err.ensures.free
