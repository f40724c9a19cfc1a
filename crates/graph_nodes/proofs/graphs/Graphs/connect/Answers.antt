use Rattle.std.proofs.Common.{ap, ◌∙◌}
use Rattle.graph_nodes.specs.Mounted.{Mounted, has}
use Rattle.graph_nodes.specs.Live.{AllLive}
use Rattle.graph_nodes.proofs.Among.{seen_changed}
use Rattle.graph_nodes.proofs.Together.{still_all, has_is}
use Rattle.graph_nodes.specs.Seen.{next_in, connects}
use Rattle.graph_nodes.proofs.graphs.Graphs.connect.Goals as goal

pub invariant_of-self : goal.invariant_of-self
invariant_of-self c = still_all c.self.inside.is_spent (AllLive c.self.inside.live c.self.inside.mount) (AllLive c.connect_in.new.live c.self.inside.mount) (c.connect_in.ensures.live c.self.inside.mount) c.self.invariant

pub returns-clause-absent : goal.returns-clause-absent
returns-clause-absent c = λ off. c.connect_in.ensures.absent (has_is c.self.inside.live c.args.number ∙ ap (λ (m : Mounted). has m.numbers c.args.number) c.self.view_is ∙ off)

pub returns-clause-number : goal.returns-clause-number
returns-clause-number c = c.connect_in.ensures.number ∙ ap (λ (m : Mounted). next_in m.graphs c.args.number c.args.brick) c.self.view_is

pub returns-clause-connects : goal.returns-clause-connects
returns-clause-connects c = seen_changed (connects c.args.brick) c.args.number c.self.inside.live c.connect_in.new.live c.self.inside.mount c.self.inside.is_spent c.args.self.now c.self.view_is c.connect_in.ensures.numbers c.connect_in.ensures.connects c.connect_in.ensures.tasks
