-- A change: its numbers, mark, op and post; and the other ops without a mark, births.
use Rattle.std.specs.Prelude.{ℕ, ◌+◌, ◌-◌, ◌^◌, ◌==◌, nat_lt, nat_le, Bool, true, false, ◌&&◌, not, List, [], ◌∷◌, ◌++◌, Option, Some, None, is_none, is_some, length, if◌then◌else◌}
use Rattle.fop_types.specs.Orders.{cell_cmp}
use Rattle.fop_types.specs.declared.answers.IoError.TheVariants as io
use Rattle.fop_types.specs.declared.causes.SkipCause.TheVariants as skip
use Rattle.fop_types.specs.declared.cells.Cell.{Cell}
use Rattle.fop_types.specs.declared.contents.Mask.{Mask}
use Rattle.fop_types.specs.declared.history.Entry.{Entry}
use Rattle.fop_types.specs.declared.jobs.Job.{Job}
use Rattle.fop_types.specs.declared.jobs.Job.TheVariants as job
use Rattle.fop_types.specs.declared.jobs.SetReply.{SetReply}
use Rattle.fop_types.specs.declared.jobs.SetReply.TheVariants as reply
use Rattle.fop_types.specs.declared.messages.BrickReq.TheVariants as req
use Rattle.fop_types.specs.declared.store_ops.StoreOp.{StoreOp}
use Rattle.afr_ledger.specs.Changes.{numbered, touching}
use Rattle.afr_ledger.specs.Ledger.{State, with_number, with_begun, decided, entry_of, entry_number}
use Rattle.afr_ledger.specs.declared.unsettled.Unsettled.{Unsettled}
use Rattle.afr_phases.specs.Flags.{mask_of, outside}
use Rattle.afr_phases.specs.Shown.{rows_listed}
use Rattle.afr_phases.specs.Waves.{confirmations}
use Rattle.afr_transaction.specs.declared.need.Need.{Need}
use Rattle.afr_transaction.specs.declared.phase.Adopted.{Adopted}
use Rattle.afr_transaction.specs.declared.phase.Part.{Part}
use Rattle.afr_transaction.specs.declared.phase.Phase.TheVariants as phase
use Rattle.afr_transaction.specs.declared.phase.Then.{Then}
use Rattle.afr_transaction.specs.declared.phase.Then.TheVariants as next
use Rattle.afr_transaction.specs.declared.txn.Txn.{Txn}
use Rattle.afr_transaction.specs.Txns.{asking, alive, kept}
use Rattle.afr_transaction.specs.Locked.{fail, unlock}

abbrev pub effect_of : Job → Option Entry
effect_of (job.Read cells fd dir) = None
effect_of (job.Change cells fd op effect) = effect
effect_of (job.Birth cells op) = None
effect_of (job.Open fd gfid) = None
effect_of job.Index = None
effect_of (job.Heal cell) = None

-- ---- mark, op, post

-- whether a number is left for one change more, whether the history has room for one entry more, and whether a number
-- was drawn
abbrev pub has_number : State Cell → Bool
has_number ledger = nat_lt ledger.drawn (2 ^ 64 - 1)

abbrev pub has_room : State Cell → Bool
has_room ledger = nat_lt (length ledger.history) 4294967295

abbrev pub is_drawn : ℕ → State Cell → Bool
is_drawn number ledger = nat_le 1 number && nat_le number ledger.drawn

-- a number is drawn, and the cells are marked
abbrev pub drawing : Txn → State Cell → Txn × (Need × State Cell)
drawing txn ledger =
    let number = ledger.drawn + 1 in
    let turn = asking txn (alive txn) (req.Mark number txn.cells) (phase.Marking number) in
    (turn.0, (turn.1, with_number ledger))

-- a change whose copies are made; where no number is left, it fails
abbrev pub marking : Txn → State Cell → Mask → List ℕ → Txn × (Need × State Cell)
marking txn ledger live last = if has_number ledger then drawing txn ledger else kept (fail txn ledger live last) ledger

-- what becomes unsettled
abbrev pub unsettled_of : Txn → ℕ → Unsettled Cell
unsettled_of txn number = record { change = number; set = txn.set; cells = txn.cells; effect = effect_of txn.job }

-- the change is unsettled, and its op goes to those who confirmed the mark
abbrev pub begun : Txn → ℕ → ℕ → StoreOp → State Cell → Txn × (Need × State Cell)
begun txn number fd op ledger =
    let turn = asking txn (alive txn) (req.Op number fd op) (phase.Writing number) in
    (turn.0, (turn.1, with_begun ledger (unsettled_of txn number)))

-- whether the change may become unsettled: no unsettled change touches its cells, and its number was drawn and is no
-- unsettled change's
abbrev pub may_begin : Txn → ℕ → State Cell → Bool
may_begin txn number ledger =
    is_none (touching cell_cmp txn.set txn.cells ledger.unsettled)
    && (is_drawn number ledger && is_none (numbered number ledger.unsettled))

-- a change whose mark a quorum has confirmed; where another touches its cells by now, it is dropped, and the job begins again
abbrev pub writing : Txn → ℕ → ℕ → StoreOp → State Cell → Mask → List ℕ → Txn × (Need × State Cell)
writing txn number fd op ledger live last =
    if may_begin txn number ledger then begun txn number fd op ledger else kept (unlock txn next.Again ledger live last) ledger

-- the post goes to those who confirmed the op, and accuses all others
abbrev pub posting : Txn → ℕ → Txn × Need
posting txn number =
    asking txn (alive txn) (req.Post number txn.cells (mask_of (outside txn.size.n (alive txn)))) (phase.Posting number None)

-- ---- the decision of a change

abbrev pub same_entry : Entry → Option Entry → Bool
same_entry entry None = false
same_entry entry (Some effect) = entry.call == effect.call && entry.part == effect.part

-- the number of an entry in the history, counted from `number` on
abbrev pub entry_from : ℕ → List Entry → Option Entry → Option ℕ
entry_from number [] effect = None
entry_from number (entry ∷ entries) effect = if same_entry entry effect then Some number else entry_from (number + 1) entries effect

-- the change is adopted: by this transaction, or by another that settled it before
abbrev pub adopted_by : Option (Unsettled Cell) → Txn → ℕ → State Cell → Adopted × State Cell
adopted_by None txn number ledger = (record { entry = entry_from 1 ledger.history (effect_of txn.job) }, ledger)
adopted_by (Some u) txn number ledger = (record { entry = entry_number ledger.history u.effect }, decided ledger number true)

abbrev pub adopting : Txn → ℕ → State Cell → Adopted × State Cell
adopting txn number ledger = adopted_by (numbered number ledger.unsettled) txn number ledger

-- a change is decided with the q-th confirmation, as long as the history has room for one entry more
abbrev pub decides : Txn → State Cell → Bool
decides txn ledger = nat_le txn.size.q (confirmations txn.wave) && has_room ledger

abbrev pub post_decided : Txn → ℕ → Option Adopted → State Cell → Option Adopted × State Cell
post_decided txn number (Some adopted) ledger = (Some adopted, ledger)
post_decided txn number None ledger =
    if decides txn ledger then (let a = adopting txn number ledger in (Some a.0, a.1)) else (None, ledger)
