use Rattle.std.proofs.Common.{sym, ap, ◌∙◌}
use Rattle.std.specs.Option.{option_copied_mut}
use Rattle.fd_table.specs.Fds.{with_fd}
use Rattle.fd_table.proofs.Keys.{present_made, not_none, with_fd_made}
use Rattle.fd_table.proofs.table.FdTable.rewrite.Goals as goal

pub returns : goal.returns
returns c = with_fd_made c.self.inside.held.entries _ c.args.session c.args.fd c.args.to ((c.get_mut.follows.holds c.args.to).3 (present_made _ c.args.session c.args.fd c.self.view_is c.requires)).0 ∙ ap (λ t. with_fd t c.args.session c.args.fd c.args.to) c.self.view_is

pub returns-in_default : goal.returns-in_default
returns-in_default c = absurd (not_none _ (sym c.get_mut.ensures.value ∙ ap option_copied_mut c.in_default.is) (present_made c.self.inside.held.entries c.args.session c.args.fd c.self.view_is c.requires))
