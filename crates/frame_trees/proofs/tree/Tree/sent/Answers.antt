use Rattle.frame_trees.proofs.Staying.{shown_tree}
use Rattle.frame_trees.proofs.tree.Tree.sent.Goals as goal

pub invariant_of-self : goal.invariant_of-self
invariant_of-self c = shown_tree _ _ c.self.inside.board _ _ c.self.invariant

pub invariant_of-self-2 : goal.invariant_of-self-2
invariant_of-self-2 c = shown_tree _ _ c.self.inside.board _ _ c.self.invariant
