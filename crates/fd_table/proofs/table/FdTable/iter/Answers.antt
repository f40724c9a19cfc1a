use Rattle.std.proofs.Common.{◌∙◌}
use Rattle.fd_table.proofs.Keys.{entries_fds}
use Rattle.fd_table.proofs.table.FdTable.iter.Goals as goal

pub returns-clause-listed : goal.returns-clause-listed
returns-clause-listed c = c.iter.ensures.rest ∙ entries_fds _ c.self.view_is c.iter.ensures.ordered
