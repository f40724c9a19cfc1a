-- What becomes of a job by its copies: the next one is asked for, or they are all made. Each turn gives the job as it is
-- then, what it needs next, and the ledger.
use Rattle.std.specs.Prelude.{◌≡◌, ℕ, ◌+◌, ◌-◌, ◌≤◌, Bool, true, false, not, List, [], ◌∷◌, ◌++◌, Option, Some, None, is_none, is_some, length, slice_get, if◌then◌else◌}
use Rattle.fop_types.specs.declared.cells.Cell.{Cell}
use Rattle.fop_types.specs.declared.contents.Mask.{Mask}
use Rattle.fop_types.specs.declared.jobs.SetReply.TheVariants as reply
use Rattle.afr_ledger.specs.Ledger.{State}
use Rattle.afr_phases.specs.Outs.{is_short, left}
use Rattle.afr_transaction.specs.declared.need.Need.{Need}
use Rattle.afr_transaction.specs.declared.need.Need.TheVariants as need
use Rattle.afr_transaction.specs.declared.phase.Phase.{Phase}
use Rattle.afr_transaction.specs.declared.phase.Phase.TheVariants as phase
use Rattle.afr_transaction.specs.declared.phase.Then.{Then}
use Rattle.afr_transaction.specs.declared.phase.Then.TheVariants as next
use Rattle.afr_transaction.specs.declared.txn.Txn.{Txn}
use Rattle.afr_transaction.specs.Txns.{asking, over, alive, io_of, heal_reply, is_heal, kept}
use Rattle.fop_types.specs.declared.copy_jobs.CopyDone.{CopyDone}
use Rattle.fop_types.specs.declared.jobs.Job.{Job}
use Rattle.fop_types.specs.declared.jobs.Job.TheVariants as job
use Rattle.afr_transaction.specs.declared.phase.Part.{Part}
use Rattle.afr_transaction.specs.Locked.{unlock, fail}
use Rattle.afr_transaction.specs.Copies.{next_part, has_source, copying, with_outs, is_left}
use Rattle.afr_transaction.specs.Changes.{marking}

abbrev pub healed : Txn → Txn
healed txn = record txn { records = [] }

abbrev pub is_change : Job → Bool
is_change (job.Read cells fd dir) = false
is_change (job.Change cells fd op effect) = true
is_change (job.Birth cells op) = false
is_change (job.Open fd gfid) = false
is_change job.Index = false
is_change (job.Heal cell) = false

-- all copies are made: a change goes on with its mark, a heal is done, and a settling begins its job again
abbrev pub copied_all : Txn → State Cell → Mask → List ℕ → Txn × (Need × State Cell)
copied_all txn ledger live last =
    if is_some txn.settles then kept (unlock txn next.Again ledger live last) ledger
    else if is_change txn.job then marking txn ledger live last
    else if is_heal txn.job then kept (unlock (healed txn) (next.Answer (reply.Healed txn.records)) ledger live last) ledger
    else kept (unlock txn next.Again ledger live last) ledger

-- the next part that has a sink left; without a source for it the job begins again
abbrev pub copy_by : Txn → Option Part × List Part → State Cell → Mask → List ℕ → Txn × (Need × State Cell)
copy_by txn (None, parts) ledger live last = copied_all txn ledger live last
copy_by txn (Some part, parts) ledger live last =
    if has_source txn part then kept (copying txn part parts) ledger else kept (unlock txn next.Again ledger live last) ledger

abbrev pub copy_next : Txn → List Part → State Cell → Mask → List ℕ → Txn × (Need × State Cell)
copy_next txn parts ledger live last = copy_by txn (next_part txn parts) ledger live last

-- who went out during a copy, and what a heal has copied
abbrev pub copy_noted : Txn → CopyDone → Txn
copy_noted txn done =
    if is_heal txn.job then record txn { outs = with_outs txn.size.n txn.outs done.outs; records = txn.records ++ done.records }
    else record txn { outs = with_outs txn.size.n txn.outs done.outs }

-- a copy is done
abbrev pub copy_taken : Txn → List Bool → List Part → CopyDone → State Cell → Mask → List ℕ → Txn × (Need × State Cell)
copy_taken txn sinks parts done ledger live last =
    let after = copy_noted txn done in
    if is_short after.outs after.size.n after.size.q then kept (fail after ledger live last) ledger
    else if is_left after sinks done.current then kept (unlock after next.Again ledger live last) ledger
    else copy_next after parts ledger live last
