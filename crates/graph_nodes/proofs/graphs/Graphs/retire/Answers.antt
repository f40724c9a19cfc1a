use Rattle.std.proofs.Common.{ap, ◌∙◌}
use Rattle.graph_nodes.specs.Mounted.{Mounted, has}
use Rattle.graph_nodes.specs.Live.{AllLive}
use Rattle.graph_nodes.proofs.Together.{still_all, has_is}
use Rattle.graph_nodes.proofs.graphs.Graphs.retire.Goals as goal

pub invariant_of-self : goal.invariant_of-self
invariant_of-self c = still_all c.self.inside.is_spent (AllLive c.self.inside.live c.self.inside.mount) (AllLive c.retire_in.new.live c.self.inside.mount) (c.retire_in.ensures.live c.self.inside.mount) c.self.invariant

pub returns-clause-there : goal.returns-clause-there
returns-clause-there c = c.retire_in.ensures.there ∙ has_is c.self.inside.live c.args.number ∙ ap (λ (m : Mounted). has m.numbers c.args.number) c.self.view_is
