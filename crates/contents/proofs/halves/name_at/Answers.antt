use Rattle.std.proofs.Common.{ap, ◌∙◌}
use Rattle.contents.proofs.HalfSteps.{name_read}
use Rattle.contents.proofs.halves.name_at.Goals as goal

pub returns : goal.returns
returns g c = name_read g.T.Named.name c.args.things.now c.args.at c.index-things-at.result c.name.result.now c.requires (c.name.ensures ∙ ap g.T.Named.name c.index-things-at.is)
