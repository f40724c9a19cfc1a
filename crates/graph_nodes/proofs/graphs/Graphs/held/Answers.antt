use Rattle.std.proofs.Common.{ap, subst, ◌∙◌}
use Rattle.graph_nodes.specs.Mounted.{Mounted, has}
use Rattle.graph_nodes.specs.Live.{AllLive}
use Rattle.graph_nodes.proofs.Together.{usable, has_is}
use Rattle.graph_nodes.specs.declared.moved.Moved.{Moved}
use Rattle.graph_nodes.specs.Among.{holds}
use Rattle.graph_nodes.proofs.Among.{seems_to_give}
use Rattle.graph_nodes.specs.Seen.{Works, same_clients, seen_in}
use Rattle.graph_nodes.proofs.graphs.Graphs.held.Goals as goal

pub held_in-requires : goal.held_in-requires
held_in-requires c = record { live = usable c.self.inside.is_spent (AllLive c.self.inside.live c.self.inside.mount) c.self.invariant c.if-self.false }

pub returns-clause-there : goal.returns-clause-there
returns-clause-there c = c.in_ok-moved.ensures.there ∙ has_is c.self.inside.live c.args.number ∙ ap (λ (m : Mounted). has m.numbers c.args.number) c.self.view_is

pub returns-clause-gives : goal.returns-clause-gives
returns-clause-gives c = seems_to_give (λ (m : Moved). m) (λ _. holds c.args.call) c.args.number c.args.self.now c.self.inside.live c.held_in.new.live c.self.inside.mount c.held_in.new.mount c.self.inside.is_spent c.in_ok-moved.moved c.self.view_is c.if-self.false
    (usable c.self.inside.is_spent (AllLive c.self.inside.live c.self.inside.mount) c.self.invariant c.if-self.false) c.in_ok-moved.ensures.gives

pub returns-clause-graphs : goal.returns-clause-graphs
returns-clause-graphs c = subst (λ (m : Mounted). Works same_clients c.args.number m.graphs (seen_in c.held_in.new.live.entries)) c.self.view_is c.in_ok-moved.ensures.graphs
