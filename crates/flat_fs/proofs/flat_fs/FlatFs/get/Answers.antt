use Rattle.std.proofs.Common.{◌∙◌, ap, Some}
use Rattle.fop_types.specs.declared.flat.FlatObject.{FlatObject}
use Rattle.flat_fs.proofs.Maps.{found_at}
use Rattle.flat_fs.proofs.flat_fs.FlatFs.get.Goals as goal

pub returns-in-Some-clause-object : goal.returns-in-Some-clause-object
returns-in-Some-clause-object c =
    ap (λ (o : FlatObject). Some o) c.object.ensures.object ∙ c.in-Some.ensures.value ∙ found_at _ _ c.args.gfid c.self.view_is

pub returns-in-None-clause-object : goal.returns-in-None-clause-object
returns-in-None-clause-object c = c.in-None.ensures.value ∙ found_at _ _ c.args.gfid c.self.view_is
