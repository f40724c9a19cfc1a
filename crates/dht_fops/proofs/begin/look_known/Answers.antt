-- The look with the names and the set as they were given.
use Rattle.std.proofs.Common.{◌∙◌, ℕ, List, Option, ap}
use Rattle.dht_fops.specs.Volumes.{known_set as known_set_of}
use Rattle.dht_fops.specs.code.Waits.{looks_for}
use Rattle.dht_fops.proofs.begin.look_known.Goals as goal

pub returns-in_ok-step-in-Ok : goal.returns-in_ok-step-in-Ok
returns-in_ok-step-in-Ok c =
    c.in_ok-step-in-Ok.ensures
    ∙ ap (λ (names : List (List ℕ)). looks_for c.args.volume c.args.purpose c.args.dir c.args.name names c.in-Ok.known) c.in-Ok.ensures.names
    ∙ ap (λ (known : Option ℕ). looks_for c.args.volume c.args.purpose c.args.dir c.args.name c.args.names.now known)
    (c.in-Ok.ensures.set ∙ ap (λ (name : List ℕ). known_set_of c.args.volume c.args.kept.now.entries c.args.dir name) c.as_slice.ensures)
