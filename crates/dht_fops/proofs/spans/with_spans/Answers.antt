use Rattle.std.proofs.Common.{◌∙◌, ℕ, List, ap}
use Rattle.dht_fops.proofs.Sets.{spans_rename}
use Rattle.dht_fops.specs.Renames.{second_set as second_set_of}
use Rattle.dht_fops.proofs.spans.with_spans.Goals as goal

pub returns-in-RenameFrom-clause-purpose : goal.returns-in-RenameFrom-clause-purpose
returns-in-RenameFrom-clause-purpose c =
    spans_rename c.args.dir c.args.spans.now c.in-RenameFrom.target c.in-RenameFrom.new_name c.in-RenameFrom.second c.second_set-second.result c.args.purpose c.in-RenameFrom.is
    (c.second_set-second.ensures.set ∙ ap (λ (n : List ℕ). second_set_of c.args.dir c.in-RenameFrom.target.gfid n c.in-RenameFrom.second c.args.spans.now) c.as_slice.ensures)
