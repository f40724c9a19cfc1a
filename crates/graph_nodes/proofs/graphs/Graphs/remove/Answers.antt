use Rattle.std.proofs.Common.{ap, ◌∙◌}
use Rattle.std.specs.Prelude.{◌&&◌, not, if◌then◌else◌}
use Rattle.std.specs.BTreeMap.{is_at}
use Rattle.std.specs.Map.{remove_entry}
use Rattle.std.specs.Ordering.{nat_cmp}
use Rattle.graph_nodes.specs.Mounted.{Mounted, has}
use Rattle.graph_nodes.specs.Live.{AllLive}
use Rattle.graph_nodes.proofs.Together.{still_all, has_gone}
use Rattle.graph_nodes.specs.Seen.{is_drained_in}
use Rattle.graph_nodes.proofs.graphs.Graphs.remove.Goals as goal

pub invariant_of-self : goal.invariant_of-self
invariant_of-self c = still_all c.self.inside.is_spent (AllLive c.self.inside.live c.self.inside.mount) (AllLive c.remove_in.new.live c.self.inside.mount) (c.remove_in.ensures.live c.self.inside.mount) c.self.invariant

pub returns-clause-numbers : goal.returns-clause-numbers
returns-clause-numbers c = λ q. has_gone c.self.inside.live c.remove_in.new.live c.args.number c.remove_in.result c.remove_in.ensures.numbers q ∙ ap (λ (m : Mounted). not (c.remove_in.result && is_at (nat_cmp c.args.number) q) && has m.numbers q) c.self.view_is

pub returns-clause-drained : goal.returns-clause-drained
returns-clause-drained c = c.remove_in.ensures.drained ∙ ap (λ (m : Mounted). is_drained_in m.graphs c.args.number) c.self.view_is

pub returns-clause-graphs : goal.returns-clause-graphs
returns-clause-graphs c = c.remove_in.ensures.graphs ∙ ap (λ (m : Mounted). if c.remove_in.result then remove_entry (is_at (nat_cmp c.args.number)) m.graphs else m.graphs) c.self.view_is
