-- The jobs without locks: an open, and an index. Each asks every live replica, and those that are not live are out.
use Rattle.std.specs.Prelude.{◌≡◌, ℕ, ◌+◌, ◌-◌, ◌≤◌, Bool, true, false, not, List, [], ◌∷◌, ◌++◌, Option, Some, None, is_none, is_some, length, slice_get, if◌then◌else◌}
use Rattle.fop_types.specs.declared.cells.Cell.{Cell}
use Rattle.fop_types.specs.declared.contents.Mask.{Mask}
use Rattle.fop_types.specs.declared.jobs.SetReply.TheVariants as reply
use Rattle.afr_ledger.specs.Ledger.{State}
use Rattle.afr_phases.specs.Outs.{is_short, left}
use Rattle.afr_transaction.specs.declared.need.Need.{Need}
use Rattle.afr_transaction.specs.declared.need.Need.TheVariants as need
use Rattle.afr_transaction.specs.declared.phase.Phase.{Phase}
use Rattle.afr_transaction.specs.declared.phase.Phase.TheVariants as phase
use Rattle.afr_transaction.specs.declared.phase.Then.{Then}
use Rattle.afr_transaction.specs.declared.phase.Then.TheVariants as next
use Rattle.afr_transaction.specs.declared.txn.Txn.{Txn}
use Rattle.afr_transaction.specs.Txns.{asking, over, alive, io_of, heal_reply, is_heal}
use Rattle.fop_types.specs.declared.answers.IoError.{IoError}
use Rattle.fop_types.specs.declared.cells.Gfid.{Gfid}
use Rattle.fop_types.specs.declared.messages.BrickReq.TheVariants as req
use Rattle.afr_phases.specs.Flags.{lowest, flags_of, mask_of}
use Rattle.afr_phases.specs.Locking.{kept_only}

-- only the live replicas are used
abbrev pub polled : Txn → Mask → List ℕ → Txn
polled txn live last = record txn { outs = kept_only txn.outs (flags_of live) txn.size.n last }

-- an open ends: it has failed where fewer than a quorum answered as asked
abbrev pub open_ended : Txn → Txn × Need
open_ended txn = if is_short txn.outs txn.size.n txn.size.q then over txn (reply.Io (io_of txn)) else over txn reply.Opened

abbrev pub opening : Txn → ℕ → Gfid → Txn × Need
opening txn fd gfid =
    if is_none (lowest (alive txn)) then open_ended txn else asking txn (alive txn) (req.Open fd gfid) phase.Opening

-- why an index falls short, where it does
abbrev pub short_of : Txn → Option IoError
short_of txn = if is_short txn.outs txn.size.n txn.size.q then Some (io_of txn) else None

-- an index ends: the cells that were listed, and by whom
abbrev pub list_ended : Txn → List Cell → Txn × Need
list_ended txn all = over txn (reply.Listed all (mask_of txn.wave.confirmed) (short_of txn))

abbrev pub listing : Txn → Txn × Need
listing txn =
    if is_none (lowest (alive txn)) then list_ended txn [] else asking txn (alive txn) req.Index (phase.Listing [])
