use Rattle.std.proofs.Common.{ap, ◌∙◌}
use Rattle.std.specs.Prelude.{Some, slice_get}
use Rattle.world_bricks.specs.Choices.{run_of}
use Rattle.world_bricks.specs.Worlds.{WorldState}
use Rattle.world_bricks.specs.declared.enabled.Choice.{Choice}
use Rattle.world_bricks.proofs.Picked.{task_chosen}
use Rattle.world_bricks.proofs.world.World.choose.Goals as goal

pub returns-in-Some-Task : goal.returns-in-Some-Task
returns-in-Some-Task c =
    let is = c.enabled-enabled.ensures in
    let ready = c.ready_at.ensures ∙ ap (λ (w : WorldState). slice_get w.tasks c.in-Some-Task.at) c.self.view_is in
    task_chosen c.args.self.now.agenda c.args.self.now.tasks c.args.self.now.lines c.args.value c.enabled-enabled.result c.chosen.result is.submits is.arriving is.serving is.tasks is.plain c.chosen.ensures c.in-Some-Task.at c.run_event.result (c.in-Some-Task.is ∙ ap (λ (x : Choice). Some x) c.in-Some-Task.field-0-is) (c.run_event.ensures ∙ ap run_of ready)
