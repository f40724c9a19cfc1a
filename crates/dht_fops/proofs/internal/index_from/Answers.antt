-- The set that is listed, and those after it.
use Rattle.dht_fops.proofs.Rests.{indexes_at}
use Rattle.dht_fops.proofs.internal.index_from.Goals as goal

pub returns-then-set-volume : goal.returns-then-set-volume
returns-then-set-volume c = rw c.ask.ensures (indexes_at c.args.volume c.args.count c.args.cells c.args.set c.if-set-volume.true)
