use Rattle.flat_fs.proofs.Numbered.{fd_gone}
use Rattle.flat_fs.proofs.fds.Fds.close.Goals as goal

pub returns : goal.returns
returns c = fd_gone _ _ _ c.args.fd c.self.view_is c.remove-fd.ensures.updates.0
