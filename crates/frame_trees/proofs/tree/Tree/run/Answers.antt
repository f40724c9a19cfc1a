use Rattle.frame_trees.proofs.Staying.{next_tree}
use Rattle.frame_trees.proofs.tree.Tree.run.Goals as goal

pub invariant_of-self : goal.invariant_of-self
invariant_of-self c = next_tree _ _ _ _ _ c.self.invariant c.in_ok-run.ensures.same c.in_ok-run.ensures.leads.same c.in_ok-run.ensures.sound (λ ps ours s h. c.in_ok-run.ensures.held ps (λ _. 0) ours s h)
