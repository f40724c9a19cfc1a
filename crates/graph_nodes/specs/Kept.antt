-- What a fop and a transaction keep between two turns, so that all that they ask of others is within its bounds, whatever
-- they are answered within bounds.
use Rattle.std.specs.Prelude.{◌≡◌, ℕ, Option, Some, None, IfSome}
use Rattle.dht_fops.specs.Bounds.{KeepsBounds}
use Rattle.dht_fops.specs.code.Fops.{goes_on_with, goes_held_with}
use Rattle.dht_fops.specs.declared.dht_fop.DhtFop.{DhtFop}
use Rattle.fop_types.specs.Bounds.{AreFew}
use Rattle.fop_types.specs.Jobs.{IsSetReply}
use Rattle.fop_types.specs.declared.jobs.SetReply.{SetReply}
use Rattle.afr_transaction.specs.Encodings.{HasBounds}
use Rattle.afr_transaction.specs.Replies.{HasAnswers}
use Rattle.afr_transaction.specs.Requests.{Keeps}
use Rattle.afr_transaction.specs.declared.txn.Txn.{Txn}
use Rattle.self_heal.specs.declared.run.CopyRun.{CopyRun}
use Rattle.graph_nodes.specs.declared.locals.JobState.{JobState}

-- what the fop goes on with keeps bounds on so many sets: after each reply within its bounds of the set that was asked, or
-- once the hold is extended
abbrev pub WaitsBy : Option ℕ → ℕ → DhtFop → Type 0
WaitsBy (Some set) count fop = (reply : SetReply) → IsSetReply reply → KeepsBounds count (goes_on_with fop reply)
WaitsBy None count fop = KeepsBounds count (goes_held_with fop)

pub record IsFopKept (fop : DhtFop) : Type 0 where
  pub count : ℕ
  pub waits : WaitsBy fop.asked count fop

pub record IsTxnKept (txn : Txn) : Type 0 where
  pub keeps : Keeps txn
  pub bounds : HasBounds txn
  pub answers : HasAnswers txn

-- the copy under way is of one to four cells, rising
abbrev pub IsCopyKept : Option CopyRun → Type 0
IsCopyKept copy = IfSome copy (λ run. AreFew run.job.cells)

abbrev pub IsJobKept : JobState → Type 0
IsJobKept job = IsTxnKept job.txn × IsCopyKept job.copy
