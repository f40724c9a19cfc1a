-- What a turn of a fop and of a transaction gives: what is asked of others and what is answered is within its bounds, and
-- where the turn leads to a wait they are kept.
use Rattle.std.specs.Prelude.{ℕ}
use Rattle.dht_fops.specs.declared.dht_fop.DhtFop.{DhtFop}
use Rattle.dht_fops.specs.declared.step.DhtNext.{DhtNext}
use Rattle.dht_fops.specs.declared.step.DhtNext.TheVariants as next
use Rattle.fop_types.specs.Bounds.{AreFew}
use Rattle.fop_types.specs.Jobs.{IsSetReply}
use Rattle.afr_transaction.specs.declared.need.Need.{Need}
use Rattle.afr_transaction.specs.declared.need.Need.TheVariants as need
use Rattle.afr_transaction.specs.declared.txn.Txn.{Txn}
use Rattle.graph_nodes.specs.Distribute.{AreJobs}
use Rattle.graph_nodes.specs.Kept.{IsFopKept, IsTxnKept}
use Rattle.graph_nodes.specs.Replicate.{AreEncoded}

abbrev pub IsFopTurn : DhtFop → DhtNext → Type 0
IsFopTurn fop (next.Jobs jobs) = AreJobs jobs × IsFopKept fop
IsFopTurn fop (next.Hold dir) = IsFopKept fop
IsFopTurn fop (next.Done answer place) = Unit {0}

abbrev pub IsTxnTurn : Txn → Need → Type 0
IsTxnTurn txn (need.Send list) = IsTxnKept txn × AreEncoded list
IsTxnTurn txn (need.Copy copy rows) = IsTxnKept txn × AreFew copy.cells
IsTxnTurn txn (need.Reply reply) = IsSetReply reply
IsTxnTurn txn need.Wait = IsTxnKept txn
