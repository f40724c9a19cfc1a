use Rattle.std.proofs.Common.{◌∙◌, ap, cond, Some, List, ℕ, map}
use Rattle.volfile.specs.TextLines.{is_text}
use Rattle.volfile.specs.VolumeNames.{Places, place_in}
use Rattle.volfile.proofs.Places.{put_shown}
use Rattle.volfile.proofs.names.VolumeNames.add.Goals as goal

pub returns-clause-ok : goal.returns-clause-ok
returns-clause-ok c = λ other.
    ap (λ es. place_in (map (λ e. (e.0.items, e.1)) es) other) c.in_ok-insert.ensures.entries
    ∙ put_shown (λ k. k.items) c.self.inside.places.entries c.in_ok-key.key c.args.place other
    ∙ ap (λ (l : List ℕ). cond (is_text other l) (Some c.args.place) (place_in (map (λ e. (e.0.items, e.1)) c.self.inside.places.entries) other)) c.in_ok-key.ensures.items
    ∙ ap (λ (p : Places). cond (is_text other c.args.name.now) (Some c.args.place) (place_in p other)) c.self.view_is
