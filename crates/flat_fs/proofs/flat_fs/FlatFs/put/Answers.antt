use Rattle.std.proofs.Common.{◌∙◌, ap}
use Rattle.fop_types.specs.Files.{with_object}
use Rattle.fop_types.specs.declared.flat.FlatObject.{FlatObject}
use Rattle.flat_fs.proofs.Maps.{put_at}
use Rattle.flat_fs.proofs.flat_fs.FlatFs.put.Goals as goal

pub returns : goal.returns
returns c =
    put_at _ _ _ c.args.gfid c.new.result c.self.view_is c.in_ok-insert.ensures.updates.0
    ∙ ap (λ (o : FlatObject). with_object c.args.self.now c.args.gfid o) c.new.ensures
