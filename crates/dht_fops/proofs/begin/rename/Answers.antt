-- The look at the first name, with the set of the second.
use Rattle.std.proofs.Common.{◌∙◌, ℕ, List, ap}
use Rattle.dht_fops.proofs.Begun.{begins_rename}
use Rattle.dht_fops.specs.Volumes.{known_set as known_set_of}
use Rattle.dht_fops.proofs.begin.rename.Goals as goal

pub returns : goal.returns
returns c =
    c.in_ok-step.ensures
    ∙ begins_rename c.args.volume c.args.names.now c.args.kept.now.entries c.args.from.0 c.args.from.1 c.args.to.0 c.args.to.1 c.in_ok-second.second
    (c.in_ok-second.ensures.set ∙ ap (λ (name : List ℕ). known_set_of c.args.volume c.args.kept.now.entries c.args.to.0.gfid name) c.as_slice.ensures)
