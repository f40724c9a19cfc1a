use Rattle.std.proofs.Common.{◌∙◌, ap, arith, ◌++◌, ◌∷◌, [], length}
use Rattle.volfile.specs.VolumeNames.{place_of}
use Rattle.volfile.proofs.Places.{volume_placed}
use Rattle.volfile.proofs.defined.Defined.push.Goals as goal

pub invariant_of-self-in-Ok : goal.invariant_of-self-in-Ok
invariant_of-self-in-Ok c =
    volume_placed c.self.inside.names _ c.self.inside.volumes.items _ c.args.volume _ c.len-place.result c.self.invariant
    (ap (place_of c.args.volume.name) c.self.view_is ∙ c.requires.fresh) c.as_slice.ensures (omega (arith, c.len-place.ensures, c.reserve.new.self.ok.0, ap length c.reserve.ensures.items)) c.in-Ok.ensures.ok
    (c.push_reserved.ensures.items ∙ ap (λ l. l ++ c.args.volume ∷ []) c.reserve.ensures.items)
