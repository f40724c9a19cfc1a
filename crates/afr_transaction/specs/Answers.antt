-- The turns of a transaction: what an answer, or a finished copy, makes of it, phase by phase. Each turn gives the job as
-- it is then, what it needs next, and the ledger.
use Rattle.std.specs.Prelude.{◌≡◌, ◌⊎◌, ℕ, ◌+◌, ◌-◌, ◌≤◌, Bool, true, false, not, List, [], ◌∷◌, ◌++◌, Option, Some, None, is_none, is_some, length, slice_get, if◌then◌else◌}
use Rattle.fop_types.specs.declared.cells.Cell.{Cell}
use Rattle.fop_types.specs.declared.contents.Mask.{Mask}
use Rattle.fop_types.specs.declared.jobs.SetReply.TheVariants as reply
use Rattle.afr_ledger.specs.Ledger.{State}
use Rattle.afr_phases.specs.Outs.{is_short, left}
use Rattle.afr_transaction.specs.declared.need.Need.{Need}
use Rattle.afr_transaction.specs.declared.need.Need.TheVariants as need
use Rattle.afr_transaction.specs.declared.phase.Phase.{Phase}
use Rattle.afr_transaction.specs.declared.phase.Phase.TheVariants as phase
use Rattle.afr_transaction.specs.declared.phase.Then.{Then}
use Rattle.afr_transaction.specs.declared.phase.Then.TheVariants as next
use Rattle.afr_transaction.specs.declared.txn.Txn.{Txn}
use Rattle.afr_transaction.specs.Txns.{asking, over, alive, io_of, heal_reply, is_heal, kept}
use Rattle.fop_types.specs.Orders.{cell_cmp}
use Rattle.fop_types.specs.declared.cells.Aspect.{Aspect}
use Rattle.fop_types.specs.declared.cells.Aspect.TheVariants as aspect
use Rattle.fop_types.specs.declared.contents.Content.{Content}
use Rattle.fop_types.specs.declared.copy_jobs.CopyDone.{CopyDone}
use Rattle.fop_types.specs.declared.messages.BrickRep.{BrickRep}
use Rattle.fop_types.specs.declared.store_ops.StoreOp.{StoreOp}
use Rattle.afr_ledger.specs.Changes.{numbered, touching}
use Rattle.afr_phases.specs.declared.outs.Outs.{Outs}
use Rattle.afr_phases.specs.declared.locking.LockStep.{LockStep}
use Rattle.afr_phases.specs.declared.locking.LockStep.TheVariants as step
use Rattle.afr_phases.specs.Waves.{taken, is_over}
use Rattle.afr_phases.specs.Locking.{next_lock}
use Rattle.afr_phases.specs.Answers.{is_fault, is_plain_done, rows_in, content_in, cells_in}
use Rattle.afr_phases.specs.Hearing.{heard}
use Rattle.afr_transaction.specs.declared.phase.Adopted.{Adopted}
use Rattle.afr_transaction.specs.declared.phase.Part.{Part}
use Rattle.afr_transaction.specs.declared.phase.Verdict.{Verdict}
use Rattle.afr_transaction.specs.Jobs.{change_op}
use Rattle.afr_transaction.specs.Locked.{locking, going, unlock, fail, lock_taken, reached}
use Rattle.afr_transaction.specs.Reads.{fetch_taken}
use Rattle.afr_transaction.specs.Changes.{writing, posting, post_decided}
use Rattle.afr_transaction.specs.Settles.{settle_decided, settle_parts}
use Rattle.afr_transaction.specs.Copied.{copy_next, copy_taken}
use Rattle.afr_transaction.specs.Ready.{ready}
use Rattle.afr_transaction.specs.Listing.{with_cells}
use Rattle.afr_transaction.specs.Polls.{open_ended, list_ended}

-- ---- the lock phase

-- the next step of a lock phase, by what it is
abbrev pub lock_step : Txn → Outs × LockStep → State Cell → Mask → List ℕ → Txn × (Need × State Cell)
lock_step txn (outs, step.Ask k) ledger live last = kept (locking (record txn { outs = outs }) k) ledger
lock_step txn (outs, step.Short) ledger live last = kept (fail (record txn { outs = outs }) ledger live last) ledger
lock_step txn (outs, step.Reached) ledger live last = ready (reached (record txn { outs = outs })) ledger live last

-- the lock phase goes on; the replicas below `from` were asked
abbrev pub lock_on : Txn → ℕ → State Cell → Mask → List ℕ → Txn × (Need × State Cell)
lock_on txn from ledger live last =
    lock_step txn (next_lock txn.outs txn.locks txn.size.n txn.size.q from live last) ledger live last

-- the answer to a lock
abbrev pub lock_answered : Txn → ℕ → BrickRep → ℕ → State Cell → Mask → List ℕ → Txn × (Need × State Cell)
lock_answered txn k rep mark ledger live last =
    lock_on (lock_taken txn k (rows_in rep (length txn.cells)) (is_fault rep) mark last) (k + 1) ledger live last

-- ---- phases that go to several replicas at once

-- a replica confirms, or is out
abbrev pub hearing : Txn → ℕ → BrickRep → ℕ → Txn
hearing txn k rep mark = record txn { outs = heard txn.outs k rep mark; wave = taken txn.wave k (is_plain_done rep) }

abbrev pub waiting : Txn → Phase → Txn × Need
waiting txn phase = (record txn { phase = phase }, need.Wait)

-- the op of a change whose mark is confirmed
abbrev pub write_by : Option (ℕ × StoreOp) → Txn → ℕ → State Cell → Mask → List ℕ → Txn × (Need × State Cell)
write_by None txn change ledger live last = kept (unlock txn next.Again ledger live last) ledger
write_by (Some op) txn change ledger live last = writing txn change op.0 op.1 ledger live last

abbrev pub mark_answered : Txn → ℕ → State Cell → Mask → List ℕ → Txn × (Need × State Cell)
mark_answered txn change ledger live last =
    if not (is_over txn.wave) then kept (waiting txn (phase.Marking change)) ledger
    else if is_short txn.outs txn.size.n txn.size.q then kept (fail txn ledger live last) ledger
    else write_by (change_op txn.job) txn change ledger live last

abbrev pub write_answered : Txn → ℕ → State Cell → Mask → List ℕ → Txn × Need
write_answered txn change ledger live last =
    if not (is_over txn.wave) then waiting txn (phase.Writing change)
    else if is_short txn.outs txn.size.n txn.size.q then fail txn ledger live last
    else posting txn change

abbrev pub post_ended : Txn → Option Adopted → State Cell → Mask → List ℕ → Txn × Need
post_ended txn None ledger live last = fail txn ledger live last
post_ended txn (Some adopted) ledger live last = unlock txn (next.Answer (reply.Decided adopted.entry)) ledger live last

abbrev pub post_answered : Txn → ℕ → Option Adopted → State Cell → Mask → List ℕ → Txn × (Need × State Cell)
post_answered txn change adopted ledger live last =
    let d = post_decided txn change adopted ledger in
    if is_over txn.wave then kept (post_ended txn d.0 d.1 live last) d.1
    else kept (waiting txn (phase.Posting change d.0)) d.1

-- a settling to whose settle all have answered
abbrev pub settle_ended : Txn → List Bool → Bool → State Cell → Mask → List ℕ → Txn × (Need × State Cell)
settle_ended txn group decided ledger live last =
    if decided then copy_next txn (settle_parts txn group) ledger live last else kept (fail txn ledger live last) ledger

-- the next step of a settling, by its verdict so far
abbrev pub settle_step : Txn → Verdict → State Cell → Mask → List ℕ → Txn × (Need × State Cell)
settle_step txn verdict ledger live last =
    if not (is_over txn.wave) then kept (waiting txn (phase.Settling verdict)) ledger
    else settle_ended txn verdict.group verdict.decided ledger live last

abbrev pub settle_answered : Txn → Verdict → State Cell → Mask → List ℕ → Txn × (Need × State Cell)
settle_answered txn verdict ledger live last =
    let d = settle_decided txn verdict ledger in
    settle_step txn (record verdict { decided = d.0 }) d.1 live last

abbrev pub birth_answered : Txn → State Cell → Mask → List ℕ → Txn × Need
birth_answered txn ledger live last =
    if not (is_over txn.wave) then waiting txn phase.Bearing
    else if is_short txn.outs txn.size.n txn.size.q then fail txn ledger live last
    else unlock txn (next.Answer (reply.Decided None)) ledger live last

abbrev pub unlock_answered : Txn → Then → State Cell → Mask → List ℕ → Txn × Need
unlock_answered txn after ledger live last =
    if not (is_over txn.wave) then waiting txn (phase.Unlocking after) else going txn after ledger live last

-- a descriptor was opened on every live replica
abbrev pub open_answered : Txn → Txn × Need
open_answered txn =
    if not (is_over txn.wave) then waiting txn phase.Opening else open_ended txn

-- a replica has listed its cells, or is out
abbrev pub list_taken : Txn → ℕ → Option (List Cell) → Bool → ℕ → List Cell → Txn × List Cell
list_taken txn k None fault mark all = (record txn { outs = left txn.outs k fault mark; wave = taken txn.wave k false }, all)
list_taken txn k (Some cells) fault mark all = (record txn { wave = taken txn.wave k true }, with_cells all cells)

abbrev pub list_answered : Txn → ℕ → BrickRep → ℕ → List Cell → Txn × Need
list_answered txn k rep mark all =
    let t = list_taken txn k (cells_in rep) (is_fault rep) mark all in
    if not (is_over t.0.wave) then waiting t.0 (phase.Listing t.1) else list_ended t.0 t.1

abbrev pub aspect_at : Option Cell → Aspect
aspect_at None = aspect.Data
aspect_at (Some cell) = cell.aspect

-- the answer to a fetch
abbrev pub fetch_answered : Txn → ℕ → List (Option Content) → ℕ → BrickRep → ℕ → State Cell → Mask → List ℕ → Txn × Need
fetch_answered txn place contents k rep mark ledger live last =
    fetch_taken txn place k contents (content_in rep (aspect_at (slice_get txn.cells (length contents)))) (is_fault rep) mark ledger live last

-- ---- the turn of an answer, by phase

abbrev pub idle : Txn → Txn
idle txn = record txn { phase = phase.Over }

abbrev pub answered_in : Phase → Txn → ℕ → BrickRep → ℕ → State Cell → Mask → List ℕ → Txn × (Need × State Cell)
answered_in (phase.Locking at) txn k rep mark ledger live last = lock_answered txn k rep mark ledger live last
answered_in (phase.Unlocking after) txn k rep mark ledger live last = kept (unlock_answered (hearing txn k rep mark) after ledger live last) ledger
answered_in (phase.Fetching place from contents) txn k rep mark ledger live last = kept (fetch_answered txn place contents k rep mark ledger live last) ledger
answered_in (phase.Copying sinks parts) txn k rep mark ledger live last = kept (waiting txn (phase.Copying sinks parts)) ledger
answered_in (phase.Marking change) txn k rep mark ledger live last = mark_answered (hearing txn k rep mark) change ledger live last
answered_in (phase.Writing change) txn k rep mark ledger live last = kept (write_answered (hearing txn k rep mark) change ledger live last) ledger
answered_in (phase.Posting change adopted) txn k rep mark ledger live last = post_answered (hearing txn k rep mark) change adopted ledger live last
answered_in (phase.Settling verdict) txn k rep mark ledger live last = settle_answered (hearing txn k rep mark) verdict ledger live last
answered_in phase.Bearing txn k rep mark ledger live last = kept (birth_answered (hearing txn k rep mark) ledger live last) ledger
answered_in phase.Opening txn k rep mark ledger live last = kept (open_answered (hearing txn k rep mark)) ledger
answered_in (phase.Listing all) txn k rep mark ledger live last = kept (list_answered txn k rep mark all) ledger
answered_in phase.Over txn k rep mark ledger live last = kept (waiting txn phase.Over) ledger

abbrev pub answered : Txn → ℕ → BrickRep → ℕ → State Cell → Mask → List ℕ → Txn × (Need × State Cell)
answered txn k rep mark ledger live last = answered_in txn.phase (idle txn) k rep mark ledger live last

-- the ledger where the memory runs out in such a turn: as it was, or with the decision of the post or the settle
abbrev pub IsLeftIn : Phase → Txn → State Cell → State Cell → Type 0
IsLeftIn (phase.Posting change adopted) txn before after = (after ≡ before) ⊎ (after ≡ (post_decided txn change adopted before).1)
IsLeftIn (phase.Settling verdict) txn before after = (after ≡ before) ⊎ (after ≡ (settle_decided txn verdict before).1)
IsLeftIn (phase.Locking at) txn before after = after ≡ before
IsLeftIn (phase.Unlocking how) txn before after = after ≡ before
IsLeftIn (phase.Fetching place from contents) txn before after = after ≡ before
IsLeftIn (phase.Copying sinks parts) txn before after = after ≡ before
IsLeftIn (phase.Marking change) txn before after = after ≡ before
IsLeftIn (phase.Writing change) txn before after = after ≡ before
IsLeftIn phase.Bearing txn before after = after ≡ before
IsLeftIn phase.Opening txn before after = after ≡ before
IsLeftIn (phase.Listing all) txn before after = after ≡ before
IsLeftIn phase.Over txn before after = after ≡ before

-- ---- the turn of a finished copy

abbrev pub copied_in : Phase → Txn → CopyDone → State Cell → Mask → List ℕ → Txn × (Need × State Cell)
copied_in (phase.Copying sinks parts) txn done ledger live last = copy_taken txn sinks parts done ledger live last
copied_in (phase.Locking at) txn done ledger live last = kept (waiting txn (phase.Locking at)) ledger
copied_in (phase.Unlocking after) txn done ledger live last = kept (waiting txn (phase.Unlocking after)) ledger
copied_in (phase.Fetching place from contents) txn done ledger live last = kept (waiting txn (phase.Fetching place from contents)) ledger
copied_in (phase.Marking change) txn done ledger live last = kept (waiting txn (phase.Marking change)) ledger
copied_in (phase.Writing change) txn done ledger live last = kept (waiting txn (phase.Writing change)) ledger
copied_in (phase.Posting change adopted) txn done ledger live last = kept (waiting txn (phase.Posting change adopted)) ledger
copied_in (phase.Settling verdict) txn done ledger live last = kept (waiting txn (phase.Settling verdict)) ledger
copied_in phase.Bearing txn done ledger live last = kept (waiting txn phase.Bearing) ledger
copied_in phase.Opening txn done ledger live last = kept (waiting txn phase.Opening) ledger
copied_in (phase.Listing all) txn done ledger live last = kept (waiting txn (phase.Listing all)) ledger
copied_in phase.Over txn done ledger live last = kept (waiting txn phase.Over) ledger

abbrev pub copied : Txn → CopyDone → State Cell → Mask → List ℕ → Txn × (Need × State Cell)
copied txn done ledger live last = copied_in txn.phase (idle txn) done ledger live last
