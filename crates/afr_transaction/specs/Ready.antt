-- The end of a lock phase: how each job goes on once its locks are granted.
use Rattle.std.specs.Prelude.{◌≡◌, ℕ, ◌+◌, ◌-◌, ◌≤◌, Bool, true, false, not, List, [], ◌∷◌, ◌++◌, Option, Some, None, is_none, is_some, length, slice_get, if◌then◌else◌}
use Rattle.fop_types.specs.declared.cells.Cell.{Cell}
use Rattle.fop_types.specs.declared.contents.Mask.{Mask}
use Rattle.fop_types.specs.declared.jobs.SetReply.TheVariants as reply
use Rattle.afr_ledger.specs.Ledger.{State}
use Rattle.afr_phases.specs.Outs.{is_short, left}
use Rattle.afr_transaction.specs.declared.need.Need.{Need}
use Rattle.afr_transaction.specs.declared.need.Need.TheVariants as need
use Rattle.afr_transaction.specs.declared.phase.Phase.{Phase}
use Rattle.afr_transaction.specs.declared.phase.Phase.TheVariants as phase
use Rattle.afr_transaction.specs.declared.phase.Then.{Then}
use Rattle.afr_transaction.specs.declared.phase.Then.TheVariants as next
use Rattle.afr_transaction.specs.declared.txn.Txn.{Txn}
use Rattle.afr_transaction.specs.Txns.{asking, over, alive, io_of, heal_reply, is_heal, kept}
use Rattle.fop_types.specs.Orders.{cell_cmp}
use Rattle.fop_types.specs.declared.answers.IoError.TheVariants as io
use Rattle.fop_types.specs.declared.causes.SkipCause.{SkipCause}
use Rattle.fop_types.specs.declared.causes.SkipCause.TheVariants as skip
use Rattle.fop_types.specs.declared.messages.BrickReq.TheVariants as req
use Rattle.fop_types.specs.declared.store_ops.StoreOp.{StoreOp}
use Rattle.afr_ledger.specs.Changes.{numbered, touching}
use Rattle.afr_phases.specs.Flags.{lowest}
use Rattle.afr_phases.specs.Shown.{rows_listed}
use Rattle.afr_transaction.specs.declared.jobs.Kind.{Kind}
use Rattle.afr_transaction.specs.declared.jobs.Kind.TheVariants as kind
use Rattle.afr_transaction.specs.Jobs.{kind_of, birth_op}
use Rattle.afr_transaction.specs.Parts.{common_of, is_split, all_parts}
use Rattle.afr_transaction.specs.Locked.{unlock}
use Rattle.afr_transaction.specs.Reads.{ready_to_read}
use Rattle.afr_transaction.specs.Settles.{has_it, group_of, settling}
use Rattle.afr_transaction.specs.Copied.{healed, copy_next}

-- the answer where a cell has no sound replica, or a change to be settled none for all its cells
abbrev pub split : Txn → State Cell → Mask → List ℕ → Txn × Need
split txn ledger live last = unlock txn (next.Answer (reply.Io (io.Split txn.set (rows_listed txn.shown txn.bricks 0 txn.cells)))) ledger live last

abbrev pub ready_to_change : Txn → State Cell → Mask → List ℕ → Txn × (Need × State Cell)
ready_to_change txn ledger live last =
    if is_split txn 0 txn.cells then kept (split txn ledger live last) ledger else copy_next txn (all_parts txn) ledger live last

-- a heal leaves its cell, unless it has copied something before
unfoldable pub skipping : Txn → SkipCause → State Cell → Mask → List ℕ → Txn × Need
skipping txn cause ledger live last = unlock (healed txn) (next.Answer (heal_reply txn.records cause)) ledger live last

-- an unsettled change touches its cells
unfoldable pub is_touched : Txn → State Cell → Bool
is_touched txn ledger = is_some (touching cell_cmp txn.set txn.cells ledger.unsettled)

abbrev pub heal_copies : Txn → State Cell → Mask → List ℕ → Txn × (Need × State Cell)
heal_copies txn ledger live last =
    if is_split txn 0 txn.cells then kept (skipping txn skip.Split ledger live last) ledger else copy_next txn (all_parts txn) ledger live last

abbrev pub ready_to_heal : Txn → State Cell → Mask → List ℕ → Txn × (Need × State Cell)
ready_to_heal txn ledger live last =
    if is_touched txn ledger then kept (skipping txn skip.Unsettled ledger live last) ledger else heal_copies txn ledger live last

abbrev pub settle_by : Txn → ℕ → Option ℕ → State Cell → Mask → List ℕ → Txn × Need
settle_by txn change None ledger live last = split txn ledger live last
settle_by txn change (Some source) ledger live last =
    settling txn change (has_it txn change source) (group_of txn change (common_of txn) source)

-- a settling whose locks are granted: where the change is settled by now, the job begins again
abbrev pub ready_to_settle : Txn → ℕ → State Cell → Mask → List ℕ → Txn × Need
ready_to_settle txn change ledger live last =
    if is_some (numbered change ledger.unsettled) then settle_by txn change (lowest (common_of txn)) ledger live last
    else unlock txn next.Again ledger live last

-- a birth makes its op on every reached replica, without a number
abbrev pub bearing_by : Option StoreOp → Txn → State Cell → Mask → List ℕ → Txn × Need
bearing_by None txn ledger live last = unlock txn next.Again ledger live last
bearing_by (Some op) txn ledger live last = asking txn (alive txn) (req.Op 0 0 op) phase.Bearing

abbrev pub bearing : Txn → State Cell → Mask → List ℕ → Txn × Need
bearing txn ledger live last = bearing_by (birth_op txn.job) txn ledger live last

abbrev pub ready_by : Kind → Txn → State Cell → Mask → List ℕ → Txn × (Need × State Cell)
ready_by kind.Read txn ledger live last = kept (ready_to_read txn ledger live last) ledger
ready_by kind.Change txn ledger live last = ready_to_change txn ledger live last
ready_by kind.Birth txn ledger live last = kept (bearing txn ledger live last) ledger
ready_by kind.Heal txn ledger live last = ready_to_heal txn ledger live last
ready_by (kind.Open fd gfid) txn ledger live last = kept (unlock txn next.Again ledger live last) ledger
ready_by kind.Index txn ledger live last = kept (unlock txn next.Again ledger live last) ledger

abbrev pub ready_for : Option ℕ → Txn → State Cell → Mask → List ℕ → Txn × (Need × State Cell)
ready_for (Some change) txn ledger live last = kept (ready_to_settle txn change ledger live last) ledger
ready_for None txn ledger live last = ready_by (kind_of txn.job) txn ledger live last

-- the lock phase has ended with enough locks
abbrev pub ready : Txn → State Cell → Mask → List ℕ → Txn × (Need × State Cell)
ready txn ledger live last = ready_for txn.settles txn ledger live last
