use Rattle.std.proofs.Common.{ap, ◌∙◌}
use Rattle.std.specs.Prelude.{◌||◌, not, if◌then◌else◌}
use Rattle.std.specs.BTreeMap.{insert_entry, is_at}
use Rattle.std.specs.Ordering.{nat_cmp}
use Rattle.graph_nodes.specs.Mounted.{Mounted, has}
use Rattle.graph_nodes.specs.Live.{AllLive}
use Rattle.graph_nodes.proofs.Together.{usable, has_is, has_put}
use Rattle.graph_nodes.specs.Seen.{new_graph}
use Rattle.graph_nodes.proofs.graphs.Graphs.make.Goals as goal

pub invariant_of-self-2 : goal.invariant_of-self-2
invariant_of-self-2 c = c.in_ok-made.ensures.live c.self.inside.mount (usable c.self.inside.is_spent (AllLive c.self.inside.live c.self.inside.mount) c.self.invariant c.if-self.false)

pub returns-clause-numbers : goal.returns-clause-numbers
returns-clause-numbers c = λ q. has_put c.self.inside.live c.make_in.new.live c.args.number c.in_ok-made.ensures.numbers q ∙ ap (λ (m : Mounted). is_at (nat_cmp c.args.number) q || has m.numbers q) c.self.view_is

pub returns-clause-made : goal.returns-clause-made
returns-clause-made c = c.in_ok-made.ensures.made ∙ ap not (has_is c.self.inside.live c.args.number ∙ ap (λ (m : Mounted). has m.numbers c.args.number) c.self.view_is)

pub returns-clause-graphs : goal.returns-clause-graphs
returns-clause-graphs c = c.in_ok-made.ensures.graphs ∙ ap (λ (m : Mounted). if c.in_ok-made.made then insert_entry nat_cmp m.graphs c.args.number (new_graph c.args.plan.now c.args.number) else m.graphs) c.self.view_is

pub returns-clause-tasks : goal.returns-clause-tasks
returns-clause-tasks c = c.in_ok-made.ensures.tasks ∙ ap (λ (m : Mounted). m.tasks) c.self.view_is
