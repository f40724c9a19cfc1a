use Rattle.fop_types.proofs.Names.{taken_is_named}
use Rattle.fop_types.proofs.items.insert_new_item.Goals as goal

pub unreachable-requires : goal.unreachable-requires
unreachable-requires c = taken_is_named _ _ _ _ c.as_slice.ensures c.requires c.in-Ok.ensures.taken.0 c.in-Ok.ensures.taken.1
