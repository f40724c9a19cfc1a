use Rattle.std.proofs.Common.{ap, ◌∙◌}
use Rattle.std.specs.Prelude.{is_some, nat_lt, slice_get}
use Rattle.world_bricks.specs.Lines.{LineState}
use Rattle.world_bricks.proofs.Queues.{some_first}
use Rattle.world_bricks.proofs.line.Line.has_input.Goals as goal

pub returns : goal.returns
returns c =
    ap (nat_lt 0) (c.len.ensures ∙ c.self.inside.inputs.ok.0) ∙ some_first c.self.inside.inputs.items
    ∙ ap (λ (l : LineState). is_some (slice_get l.inputs 0)) c.self.view_is
