use Rattle.std.proofs.Common.{ap, ◌∙◌}
use Rattle.std.specs.Prelude.{slice_get}
use Rattle.world_bricks.specs.Lines.{LineState}
use Rattle.world_bricks.proofs.Queues.{first_of}
use Rattle.world_bricks.proofs.line.Line.take.Goals as goal

pub returns-clause-input : goal.returns-clause-input
returns-clause-input c =
    first_of c.self.inside.inputs.items c.pop_front.result c.self.inside.inputs.len c.pop_front.new.self.len c.self.inside.inputs.ok.0 c.pop_front.ensures.cases c.pop_front.ensures.value
    ∙ ap (λ (l : LineState). slice_get l.inputs 0) c.self.view_is
