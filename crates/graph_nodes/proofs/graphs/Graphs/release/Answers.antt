use Rattle.std.proofs.Common.{refl}
use Rattle.graph_nodes.specs.Live.{AllLive}
use Rattle.graph_nodes.proofs.Together.{still_all, linked_all}
use Rattle.graph_nodes.proofs.graphs.Graphs.release.Goals as goal

pub invariant_of-self : goal.invariant_of-self
invariant_of-self c = still_all c.self.inside.is_spent (AllLive c.self.inside.live c.self.inside.mount) _ (linked_all c.self.inside.live c.self.inside.mount _ refl refl) c.self.invariant
