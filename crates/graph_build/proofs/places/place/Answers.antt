use Rattle.std.proofs.Common.{◌≡◌, arith, ◌∙◌, sym, ap, List, ℕ, Some}
use Rattle.volfile.specs.VolumeNames.{place_in, place_of}
use Rattle.graph_build.proofs.PlaceLemmas.{place_below}
use Rattle.graph_build.proofs.places.place.Goals as goal

pub returns-else-place-lt256 : goal.returns-else-place-lt256
returns-else-place-lt256 c =
    let found : place_of c.args.name.now c.args.volumes.now ≡ Some c.in-Some.place =
    sym (c.requires.named c.args.name.now) ∙ ap (λ (l : List ℕ). place_in c.args.names.now l) (sym c.as_slice.ensures) ∙ sym c.find.ensures ∙ c.in-Some.is in
    absurd (omega (arith, place_below c.args.volumes.now c.args.name.now c.in-Some.place found, c.requires.few, c.if-place-lt256.false))
