use Rattle.std.proofs.Common.{sym, ap, ◌∙◌}
use Rattle.inode_table.specs.Inodes.{inode_at}
use Rattle.inode_table.proofs.Made.{inode_made}
use Rattle.inode_table.proofs.table.InodeTable.get.Goals as goal

pub returns : goal.returns
returns c = c.copied.ensures ∙ c.get.ensures.value ∙ sym (inode_made _ c.args.gfid) ∙ ap (λ t. inode_at t c.args.gfid) c.self.view_is
