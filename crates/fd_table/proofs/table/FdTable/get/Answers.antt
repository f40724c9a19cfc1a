use Rattle.std.proofs.Common.{sym, ap, ◌∙◌}
use Rattle.fd_table.specs.Fds.{fd_at}
use Rattle.fd_table.proofs.Keys.{fd_at_made}
use Rattle.fd_table.proofs.table.FdTable.get.Goals as goal

pub returns : goal.returns
returns c = c.copied.ensures ∙ c.get.ensures.value ∙ sym (fd_at_made _ c.args.session c.args.fd) ∙ ap (λ t. fd_at t c.args.session c.args.fd) c.self.view_is
