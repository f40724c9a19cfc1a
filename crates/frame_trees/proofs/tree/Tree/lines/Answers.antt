use Rattle.frame_trees.proofs.Staying.{listed_tree}
use Rattle.frame_trees.proofs.tree.Tree.lines.Goals as goal

pub invariant_of-self : goal.invariant_of-self
invariant_of-self c = listed_tree _ _ c.self.inside.board _ c.self.invariant c.lines.ensures.rest
