use Rattle.std.proofs.Common.{◌∙◌}
use Rattle.flat_fs.proofs.Numbered.{fd_at}
use Rattle.flat_fs.proofs.fds.Fds.get.Goals as goal

pub returns : goal.returns
returns c = c.get.ensures.value ∙ fd_at _ _ c.args.fd c.self.view_is
