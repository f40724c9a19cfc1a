use Rattle.std.proofs.Common.{ap, ◌∙◌}
use Rattle.graph_nodes.specs.Mounted.{Mounted, has}
use Rattle.graph_nodes.proofs.Together.{has_is}
use Rattle.graph_nodes.proofs.graphs.Graphs.has.Goals as goal

pub returns : goal.returns
returns c = c.contains_key.ensures ∙ has_is c.self.inside.live c.args.number ∙ ap (λ (m : Mounted). has m.numbers c.args.number) c.self.view_is
