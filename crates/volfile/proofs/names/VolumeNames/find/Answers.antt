use Rattle.std.proofs.Common.{◌∙◌, ap}
use Rattle.volfile.specs.VolumeNames.{Places, place_in}
use Rattle.volfile.proofs.Places.{find_shown}
use Rattle.volfile.proofs.names.VolumeNames.find.Goals as goal

pub returns : goal.returns
returns c =
    c.copied.ensures ∙ c.get.ensures.value ∙ find_shown (λ k. k.items) c.self.inside.places.entries c.args.name.now
    ∙ ap (λ (p : Places). place_in p c.args.name.now) c.self.view_is
