use Rattle.std.proofs.Common.{◌∙◌, ap, List, ℕ, ◌-◌, take, length}
use Rattle.flat_fs.proofs.Walks.{parent_is}
use Rattle.flat_fs.proofs.walk.parent.Goals as goal

pub returns : goal.returns
returns c = ap (λ (l : List (List ℕ)). take (length l - 1) l) c.as_slice-parts.ensures ∙ parent_is c.args.path.now.parts
