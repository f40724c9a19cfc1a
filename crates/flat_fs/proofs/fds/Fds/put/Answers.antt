use Rattle.std.proofs.Common.{◌∙◌, ap}
use Rattle.std.specs.FinMap as map
use Rattle.fop_types.specs.Calls.{Descriptor}
use Rattle.flat_fs.proofs.Numbered.{fd_put}
use Rattle.flat_fs.proofs.fds.Fds.put.Goals as goal

pub returns : goal.returns
returns c =
    fd_put _ _ _ c.args.fd c.new.result c.self.view_is c.in_ok-insert.ensures.updates.0
    ∙ ap (λ (d : Descriptor). map.insert c.args.self.now c.args.fd d) c.new.ensures
