-- A frame of a set's node that is under way asks replicas of the set alone, of which there are at most five.
use Rattle.std.proofs.Common.{◌≡◌, ℕ, ◌<◌, ◌≤◌, true, ◌&&◌, ◌==◌, not, Option, Some, None, arith}
use Rattle.std.proofs.lemmas.Bool.{and_parts, eqb-true}
use Rattle.afr_phases.specs.Asked.{is_within, is_waiting, are_granted_within}
use Rattle.afr_phases.specs.Flags.{flags_of}
use Rattle.afr_phases.specs.Waves.{is_over}
use Rattle.afr_phases.proofs.Asked.{within_at}
use Rattle.afr_transaction.specs.Shapes.{is_asking, is_copying, suits}
use Rattle.afr_transaction.specs.declared.txn.Txn.{Txn}
use Rattle.self_heal.specs.declared.run.CopyRun.{CopyRun}
use Rattle.self_heal.specs.Turning.{is_under_way, is_staged}
use Rattle.graph_nodes.specs.Replicate.{is_asked_by}
use Rattle.graph_nodes.specs.Shapes.{waits_well}

pub slot_below : (n slot : ℕ) (txn : Txn) (copy : Option CopyRun) → n ≤ 5 → waits_well n txn copy ≡ true → is_asked_by txn copy slot ≡ true → slot < 5
slot_below n slot txn None few way asked =
    let parts = and_parts (txn.size.n == n) (is_asking txn) way in
    let waiting = (and_parts (is_waiting txn.size.n txn.wave) (are_granted_within txn.size.n txn.locks && suits txn.phase txn) parts.1).0 in
    let within = (and_parts (not (is_over txn.wave)) (is_within txn.size.n txn.wave.asked) waiting).1 in
    let low : slot < txn.size.n = within_at txn.size.n slot txn.wave.asked within asked in
    let same : txn.size.n ≡ n = eqb-true txn.size.n n parts.0 in
    omega (arith, low, same, few)
slot_below n slot txn (Some run) few way asked =
    let parts = and_parts (txn.size.n == n) (is_copying txn && is_under_way n run) way in
    let both = and_parts (is_copying txn) (is_under_way n run) parts.1 in
    let waiting = (and_parts (is_waiting n run.wave) (is_within n (flags_of run.job.held) && is_staged run.stage run) both.1).0 in
    let within = (and_parts (not (is_over run.wave)) (is_within n run.wave.asked) waiting).1 in
    let low : slot < n = within_at n slot run.wave.asked within asked in
    omega (arith, low, few)

-- a frame that waits for the transaction, and one that waits for a copy
pub asking_of : (n : ℕ) (txn : Txn) → waits_well n txn None ≡ true → is_asking txn ≡ true
asking_of n txn way = (and_parts (txn.size.n == n) (is_asking txn) way).1

pub copying_of : (n : ℕ) (txn : Txn) (run : CopyRun) → waits_well n txn (Some run) ≡ true → is_copying txn ≡ true
copying_of n txn run way = (and_parts (is_copying txn) (is_under_way n run) (and_parts (txn.size.n == n) (is_copying txn && is_under_way n run) way).1).0
