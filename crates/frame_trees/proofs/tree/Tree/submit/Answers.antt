use Rattle.std.proofs.Common.{ℕ, ap}
use Rattle.frame_driver.specs.declared.board.Board.{Board}
use Rattle.frame_trees.specs.declared.kinds.Kept.{Kept}
use Rattle.frame_trees.proofs.Staying.{submitted_tree}
use Rattle.frame_trees.proofs.tree.Tree.submit.Goals as goal

pub invariant_of-self : goal.invariant_of-self
invariant_of-self c = submitted_tree c.self.inside.nodes.items c.self.inside.wiring c.self.inside.board c.submit.new.self c.self.invariant (ap (λ (b : Board ℕ ℕ Kept). b.graph) c.in_ok-submit.ensures.submitted) c.in_ok-submit.ensures.sound c.in_ok-submit.ensures.held
