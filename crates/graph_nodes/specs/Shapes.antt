-- A frame of a set's node between two turns: its transaction is of a set of so many replicas, and waits for requests, or for
-- a copy that waits for requests.
use Rattle.std.specs.Prelude.{ℕ, ◌==◌, ◌&&◌, Bool, Option, Some, None}
use Rattle.afr_transaction.specs.Shapes.{is_asking, is_copying}
use Rattle.afr_transaction.specs.declared.txn.Txn.{Txn}
use Rattle.self_heal.specs.declared.run.CopyRun.{CopyRun}
use Rattle.self_heal.specs.Turning.{is_under_way as is_copy_under_way}
use Rattle.graph_nodes.specs.declared.locals.JobState.{JobState}

abbrev pub waits_well : ℕ → Txn → Option CopyRun → Bool
waits_well n txn None = (txn.size.n == n) && is_asking txn
waits_well n txn (Some run) = (txn.size.n == n) && (is_copying txn && is_copy_under_way n run)

abbrev pub is_under_way : ℕ → JobState → Bool
is_under_way n frame = waits_well n frame.txn frame.copy
