use Rattle.std.proofs.Common.{◌∙◌, ap}
use Rattle.cell_store.specs.declared.cell_map.CellMap.TheInside.{Inside}
use Rattle.cell_store.specs.Cells.{clear_of}
use Rattle.cell_store.proofs.Places.{in_place, not_in_place, counted_in_place, counted_same}
use Rattle.cell_store.proofs.cell_map.CellMap.clear_one.Goals.{in-Some, in-None}
use Rattle.cell_store.proofs.cell_map.CellMap.clear_one.Goals as goal

pub invariant_of-self : goal.invariant_of-self
invariant_of-self c =
    elim c.match-get_mut.branch [
      | in-Some w ↦
          counted_in_place _ _ c.args.cell.now _ c.self.invariant (ap (λ (i : Inside). i.cells.entries) w.self-inside-is ∙ (c.get_mut.follows.holds w.clear.new.self).0)
          w.clear.ensures.counted
      | in-None w ↦ counted_same _ _ c.self.invariant (ap (λ (i : Inside). i.cells.entries) w.self-inside-is ∙ ap (λ m. m.entries) c.get_mut.follows.holds-at-none)
    ]

pub returns : goal.returns
returns c =
    elim c.match-get_mut.branch [
      | in-Some w ↦
          in_place _ _ c.args.cell.now c.self.view_is (clear_of c.args.who) _ _ _ w.in-Some.ensures.value
          (ap (λ (i : Inside). i.cells.entries) w.self-inside-is ∙ (c.get_mut.follows.holds w.clear.new.self).0) w.clear.ensures.clear
      | in-None w ↦
          ap (λ (i : Inside). i.cells.entries) w.self-inside-is ∙ ap (λ m. m.entries) c.get_mut.follows.holds-at-none
          ∙ not_in_place _ _ c.args.cell.now c.self.view_is _ w.in-None.ensures.value
    ]
