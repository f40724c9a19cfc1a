use Rattle.cell_store.proofs.Places.{counted_removed}
use Rattle.cell_store.proofs.cell_map.CellMap.forget.Goals as goal

pub invariant_of-self : goal.invariant_of-self
invariant_of-self c = counted_removed _ _ c.args.cell.now c.self.invariant c.remove-kept.ensures.entries
