use Rattle.std.proofs.Common.{◌∙◌}
use Rattle.contents.proofs.Orders.{rest_rises}
use Rattle.contents.proofs.names.rename_item_by.Goals as goal

pub exchange-requires-clause-rise : goal.exchange-requires-clause-rise
exchange-requires-clause-rise c = λ h. rest_rises c.args.items.now c.into_vec-held.result.items c.as_slice.result.now c.args.name.now c.in-Some.index (c.into_vec-held.ensures ∙ c.replace.ensures.value) c.as_slice.ensures (c.requires h) c.in-Some.ensures.found.1
