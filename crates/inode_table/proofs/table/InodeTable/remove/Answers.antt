use Rattle.std.proofs.Common.{ap, ◌∙◌}
use Rattle.std.specs.FinMap as map
use Rattle.inode_table.proofs.Made.{remove_made}
use Rattle.inode_table.proofs.table.InodeTable.remove.Goals as goal

pub returns : goal.returns
returns c = remove_made _ _ c.args.gfid c.swap_remove.ensures.updates.0 ∙ ap (λ t. map.remove t c.args.gfid) c.self.view_is
