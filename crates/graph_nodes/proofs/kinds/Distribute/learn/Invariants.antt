use Rattle.std.proofs.Common.{◌≡◌, drop}
use Rattle.graph_nodes.specs.Distribute.{kept_with}
use Rattle.graph_nodes.proofs.kinds.Distribute.learn.Given as goal

abbrev pub invariant-loop-at : goal.invariant-loop-at
invariant-loop-at l =
    (kept_with l.self.kept.entries (drop l.at l.learnt) ≡ kept_with l.fn.self.kept.entries (drop l.from l.learnt))
    × (l.self.names ≡ l.fn.self.names) × (l.self.sets ≡ l.fn.self.sets)
