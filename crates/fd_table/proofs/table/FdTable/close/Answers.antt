use Rattle.std.proofs.Common.{sym, ap, ◌∙◌, is_some}
use Rattle.fd_table.specs.Fds.{fd_at, without_fd}
use Rattle.fd_table.proofs.Keys.{fd_at_made, without_fd_made}
use Rattle.fd_table.proofs.table.FdTable.close.Goals as goal

pub returns-clause-open : goal.returns-clause-open
returns-clause-open c = c.is_some.ensures ∙ ap is_some (c.remove-closed.ensures.value ∙ sym (fd_at_made _ c.args.session c.args.fd) ∙ ap (λ t. fd_at t c.args.session c.args.fd) c.self.view_is)

pub returns-clause-closed : goal.returns-clause-closed
returns-clause-closed c = without_fd_made _ _ c.args.session c.args.fd c.remove-closed.ensures.updates.0 ∙ ap (λ t. without_fd t c.args.session c.args.fd) c.self.view_is
