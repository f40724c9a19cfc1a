use Rattle.std.proofs.Common.{ap, ◌∙◌}
use Rattle.fd_table.specs.Fds.{opened_at, with_fd}
use Rattle.fd_table.proofs.Keys.{with_fd_made}
use Rattle.fd_table.proofs.table.FdTable.open.Goals as goal

pub returns-clause-opened : goal.returns-clause-opened
returns-clause-opened c = λ _. with_fd_made _ _ c.args.session c.args.fd (opened_at c.args.gfid c.args.set) c.in-Ok.ensures.updates.0 ∙ ap (λ t. with_fd t c.args.session c.args.fd (opened_at c.args.gfid c.args.set)) c.self.view_is
