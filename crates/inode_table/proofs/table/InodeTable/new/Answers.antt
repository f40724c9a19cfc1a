use Rattle.inode_table.proofs.Made.{none_made}
use Rattle.inode_table.proofs.table.InodeTable.new.Goals as goal

pub returns-clause-none : goal.returns-clause-none
returns-clause-none c = λ gfid. none_made _ c.new.ensures.empty gfid
