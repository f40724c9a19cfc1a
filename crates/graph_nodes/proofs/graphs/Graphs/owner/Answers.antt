use Rattle.std.proofs.Common.{sym, ap, ◌∙◌}
use Rattle.graph_nodes.specs.Live.{AllLive}
use Rattle.graph_nodes.specs.Mounted.{Mounted, has}
use Rattle.graph_nodes.proofs.Owners.{owned}
use Rattle.graph_nodes.proofs.Together.{usable}
use Rattle.graph_nodes.proofs.graphs.Graphs.owner.Goals as goal

pub returns : goal.returns
returns c = λ fresh.
    let live = usable c.self.inside.is_spent (AllLive c.self.inside.live c.self.inside.mount) c.self.invariant (ap (λ (m : Mounted). m.spent) c.self.view_is ∙ fresh) in
    sym (ap (λ (m : Mounted). has m.numbers c.in_ok-place.place.graph) c.self.view_is) ∙ owned c.self.inside.live c.self.inside.mount c.in_ok-parent.parent.frame c.in_ok-place.place live (sym c.in_ok-place.ensures)
