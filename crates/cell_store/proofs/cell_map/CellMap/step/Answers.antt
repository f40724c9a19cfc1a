use Rattle.std.proofs.Common.{ap}
use Rattle.cell_store.specs.code.Steps.{stepped, with_row}
use Rattle.cell_store.proofs.Places.{put_in, taken_back, new_taken_back, counted_in_place, counted_put_in, step_back_at}
use Rattle.cell_store.proofs.cell_map.CellMap.step.Goals as goal

pub invariant_of-self : goal.invariant_of-self
invariant_of-self c = counted_in_place _ _ c.args.cell.now _ c.self.invariant (c.get_mut.follows.holds c.step.new.self).0 c.step.ensures.counted

pub invariant_of-self-in-None : goal.invariant_of-self-in-None
invariant_of-self-in-None c =
    counted_put_in c.insert.result _ _ _ c.args.cell.now _ (ap (λ m. m.entries) c.get_mut.follows.holds-at-none) c.self.invariant c.insert.ensures.entries c.insert.ensures.err c.step-in-None.ensures.counted

pub returns-in-Some-clause-ok : goal.returns-in-Some-clause-ok
returns-in-Some-clause-ok c =
    put_in _ _ c.args.cell.now c.self.view_is (stepped c.args.step) _ _ _ c.get_mut.ensures.ordered c.in-Some.ensures.value (c.get_mut.follows.holds c.step.new.self).0 c.step.ensures.step

pub returns-in-Some-clause-back : goal.returns-in-Some-clause-back
returns-in-Some-clause-back c =
    taken_back _ _ c.args.cell.now c.self.view_is (λ k. with_row k c.row-row.result) _ c.in-Some.kept.now _ c.in-Some.ensures.value (c.get_mut.follows.holds c.step.new.self).0 (step_back_at c.args.step _ _ _ c.step.ensures.step c.row-row.ensures)

pub returns-in_ok-insert-in-None-clause-back : goal.returns-in_ok-insert-in-None-clause-back
returns-in_ok-insert-in-None-clause-back c = new_taken_back _ _ c.args.cell.now c.self.view_is _ _ _ (ap (λ m. m.entries) c.get_mut.follows.holds-at-none) c.in-None.ensures.value c.in_ok-insert-in-None.ensures.entries
