use Rattle.std.proofs.Common.{◌∙◌, ap}
use Rattle.std.specs.FinMap as map
use Rattle.flat_fs.specs.declared.flat_fs.FlatFs.TheInside.{Inside}
use Rattle.flat_fs.proofs.Maps.{edited_there, edited_nowhere, there, on_ok, ok_as}
use Rattle.flat_fs.proofs.flat_fs.FlatFs.edit.Goals.{in-Some, in-None}
use Rattle.flat_fs.proofs.flat_fs.FlatFs.edit.Goals as goal

pub returns : goal.returns
returns c =
    elim c.match-get_mut.branch [
      | in-Some w ↦
          ok_as _ _ _ w.result-is (on_ok w.edit.result w.edit.ensures
          (λ made. ap (λ (i : Inside). map.from_entries i.held.entries) w.self-inside-is
          ∙ edited_there _ _ _ c.args.gfid c.args.edit w.in-Some.held.now _ c.self.view_is w.in-Some.ensures.value
          ((c.get_mut.follows.holds w.edit.new.self).3 (there _ c.args.gfid _ w.in-Some.ensures.value)).0 made))
      | in-None w ↦
          ok_as _ _ _ w.result-is (ap (λ (i : Inside). map.from_entries i.held.entries) w.self-inside-is ∙ ap (λ m. map.from_entries m.entries) c.get_mut.follows.holds-at-none
          ∙ edited_nowhere _ _ c.args.gfid c.args.edit c.self.view_is w.in-None.ensures.value)
    ]
