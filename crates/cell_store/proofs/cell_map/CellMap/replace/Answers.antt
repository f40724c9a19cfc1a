use Rattle.std.proofs.Common.{ap}
use Rattle.cell_store.specs.Cells.{copied_in}
use Rattle.cell_store.proofs.Places.{put_in, counted_in_place, counted_put_in, counted_at, counted_as, counted_new}
use Rattle.cell_store.proofs.cell_map.CellMap.replace.Goals as goal

pub invariant_of-self : goal.invariant_of-self
invariant_of-self c =
    counted_in_place _ _ c.args.cell.now _ c.self.invariant (c.get_mut.follows.holds c.replace.new.self).0
    (counted_as c.in-Some.kept.now c.replace.new.self c.replace.ensures.counts (counted_at _ c.args.cell.now _ c.self.invariant c.in-Some.ensures.value))

pub invariant_of-self-in-None : goal.invariant_of-self-in-None
invariant_of-self-in-None c =
    counted_put_in c.insert.result _ _ _ c.args.cell.now _ (ap (λ m. m.entries) c.get_mut.follows.holds-at-none) c.self.invariant c.insert.ensures.entries c.insert.ensures.err
    (counted_new c.nothing-kept.result c.replace-in-None.new.self c.nothing-kept.ensures c.replace-in-None.ensures.counts)

pub returns-in-Some-clause-ok : goal.returns-in-Some-clause-ok
returns-in-Some-clause-ok c =
    put_in _ _ c.args.cell.now c.self.view_is (copied_in c.args.content c.args.last) _ _ _ c.get_mut.ensures.ordered c.in-Some.ensures.value (c.get_mut.follows.holds c.replace.new.self).0 c.replace.ensures.copy
