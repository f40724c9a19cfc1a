-- The settling of an unsettled change. The source is the lowest reached replica that is sound on all its cells: it
-- says whether the change is adopted. The group are the sound ones that agree with it. All others are accused, and get
-- a copy once a quorum has confirmed.
use Rattle.std.specs.Prelude.{ℕ, nat_le, Bool, true, false, ◌&&◌, not, List, [], ◌∷◌, Option, Some, None, is_none, if◌then◌else◌}
use Rattle.fop_types.specs.declared.cells.Cell.{Cell}
use Rattle.fop_types.specs.declared.contents.Mask.{Mask}
use Rattle.fop_types.specs.declared.messages.BrickReq.TheVariants as req
use Rattle.afr_ledger.specs.Changes.{numbered}
use Rattle.afr_ledger.specs.Ledger.{State, decided}
use Rattle.afr_ledger.specs.declared.unsettled.Unsettled.{Unsettled}
use Rattle.afr_phases.specs.Flags.{flag, flags_by, both, but_for, lowest, mask_of, outside}
use Rattle.afr_phases.specs.Waves.{confirmations}
use Rattle.afr_transaction.specs.declared.need.Need.{Need}
use Rattle.afr_transaction.specs.declared.phase.Part.{Part}
use Rattle.afr_transaction.specs.declared.phase.Phase.TheVariants as phase
use Rattle.afr_transaction.specs.declared.phase.Verdict.{Verdict}
use Rattle.afr_transaction.specs.declared.txn.Txn.{Txn}
use Rattle.afr_transaction.specs.Changes.{decides}
use Rattle.afr_transaction.specs.Sound.{has_change, agrees}
use Rattle.afr_transaction.specs.Txns.{asking, alive}

-- whether a replica has the change
abbrev pub has_it : Txn → ℕ → ℕ → Bool
has_it txn change k = has_change txn.shown change 0 txn.cells k

-- those who are sound on all cells and agree on each with the source
abbrev pub group_of : Txn → ℕ → List Bool → ℕ → List Bool
group_of txn change common source = flags_by (λ k. flag common k && agrees txn.shown change source 0 txn.cells k)

-- the settle goes to the reached replicas that are still used, and accuses all outside the group
abbrev pub settling : Txn → ℕ → Bool → List Bool → Txn × Need
settling txn change held group =
    asking txn (alive txn) (req.Settle txn.cells (mask_of (outside txn.size.n group))) (phase.Settling (record { change = change; held = held; group = group; decided = false }))

-- the verdict comes with the decision, unless another has settled the change before
abbrev pub verdict_by : Option (Unsettled Cell) → ℕ → Bool → State Cell → State Cell
verdict_by None change held ledger = ledger
verdict_by (Some u) change held ledger = decided ledger change held

abbrev pub settle_decided : Txn → Verdict → State Cell → Bool × State Cell
settle_decided txn verdict ledger =
    if verdict.decided then (true, ledger)
    else if decides txn ledger
    then (true, verdict_by (numbered verdict.change ledger.unsettled) verdict.change verdict.held ledger)
    else (false, ledger)

-- those outside the group get a copy of all cells from the group
abbrev pub settle_parts : Txn → List Bool → List Part
settle_parts txn group = record { cells = txn.cells; sources = group; sinks = but_for txn.shown.reached group } ∷ []
