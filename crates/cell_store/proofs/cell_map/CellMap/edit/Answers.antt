use Rattle.cell_store.specs.code.Steps.{edited_kept}
use Rattle.cell_store.proofs.Places.{put_in, written_same, counted_in_place, counted_at, counted_as}
use Rattle.cell_store.proofs.Results.{on_ok, on_err}
use Rattle.cell_store.proofs.cell_map.CellMap.edit.Goals as goal

pub invariant_of-self : goal.invariant_of-self
invariant_of-self c =
    counted_in_place _ _ c.args.cell.now _ c.self.invariant (c.get_mut.follows.holds c.edit.new.self).0
    (counted_as c.in-Some.kept.now c.edit.new.self c.edit.ensures.counts (counted_at _ c.args.cell.now _ c.self.invariant c.in-Some.ensures.value))

pub returns-clause-ok : goal.returns-clause-ok
returns-clause-ok c =
    on_ok c.edit.result c.edit.ensures.ok
    (λ made. put_in _ _ c.args.cell.now c.self.view_is (λ k. edited_kept c.args.by c.args.change k) _ _ _ c.get_mut.ensures.ordered c.in-Some.ensures.value
    (c.get_mut.follows.holds c.edit.new.self).0 made)

pub returns-clause-err : goal.returns-clause-err
returns-clause-err c =
    on_err c.edit.result c.edit.ensures.err
    (λ same. written_same _ _ c.args.cell.now c.self.view_is _ c.in-Some.kept.now c.edit.new.self c.in-Some.ensures.value (c.get_mut.follows.holds c.edit.new.self).0 same)
