-- What a turn does to the ledger of its mount: it draws a number, makes its change unsettled, decides the change of its post
-- or its settle with the q-th confirmation, or leaves the ledger as it is.
use Rattle.std.specs.Prelude.{◌≡◌, ℕ, ◌≤◌, ◌⊎◌, Bool, true, false, List, Option, Some, None}
use Rattle.fop_types.specs.declared.cells.Cell.{Cell}
use Rattle.fop_types.specs.declared.contents.Mask.{Mask}
use Rattle.fop_types.specs.declared.copy_jobs.CopyDone.{CopyDone}
use Rattle.fop_types.specs.declared.messages.BrickRep.{BrickRep}
use Rattle.afr_ledger.specs.Ledger.{State, with_number, with_begun, decided}
use Rattle.afr_phases.specs.declared.wave.Wave.{Wave}
use Rattle.afr_phases.specs.Answers.{is_plain_done}
use Rattle.afr_phases.specs.Waves.{confirmations, taken}
use Rattle.afr_transaction.specs.declared.phase.Adopted.{Adopted}
use Rattle.afr_transaction.specs.declared.phase.Phase.{Phase}
use Rattle.afr_transaction.specs.declared.phase.Phase.TheVariants as phase
use Rattle.afr_transaction.specs.declared.txn.Txn.{Txn}
use Rattle.afr_transaction.specs.Answers.{answered, copied}
use Rattle.afr_transaction.specs.Changes.{unsettled_of, may_begin}
use Rattle.afr_transaction.specs.Shapes.{is_asking}

-- a phase that may decide a change, and how: a post adopts it, a settle as its group holds it, and neither does it twice
abbrev pub MayDecide : Phase → ℕ → Bool → Type 0
MayDecide (phase.Posting number None) change adopted = (change ≡ number) × (adopted ≡ true)
MayDecide (phase.Posting number (Some by)) change adopted = ⊥
MayDecide (phase.Settling verdict) change adopted = (change ≡ verdict.change) × ((adopted ≡ verdict.held) × (verdict.decided ≡ false))
MayDecide (phase.Locking at) change adopted = ⊥
MayDecide (phase.Unlocking after) change adopted = ⊥
MayDecide (phase.Fetching place from contents) change adopted = ⊥
MayDecide (phase.Copying sinks rest) change adopted = ⊥
MayDecide (phase.Marking number) change adopted = ⊥
MayDecide (phase.Writing number) change adopted = ⊥
MayDecide phase.Bearing change adopted = ⊥
MayDecide phase.Opening change adopted = ⊥
MayDecide (phase.Listing all) change adopted = ⊥
MayDecide phase.Over change adopted = ⊥

-- A ledger before and after a turn. `wave` has the confirmations with the answer of this turn.
pub data IsMove (txn : Txn) (wave : Wave) (before after : State Cell) : Type 0 where
  Stays : after ≡ before → IsMove txn wave before after
  Draws : after ≡ with_number before → IsMove txn wave before after
  Begins : (change : ℕ) → txn.phase ≡ phase.Marking change → may_begin txn change before ≡ true → after ≡ with_begun before (unsettled_of txn change) → IsMove txn wave before after
  Decides : (change : ℕ) → (adopted : Bool) → MayDecide txn.phase change adopted → txn.size.q ≤ confirmations wave → after ≡ decided before change adopted → IsMove txn wave before after

abbrev pub AnswersMove : Type 0
AnswersMove = (txn : Txn) (k mark : ℕ) (rep : BrickRep) (ledger : State Cell) (live : Mask) (last : List ℕ)
    → is_asking txn ≡ true → IsMove txn (taken txn.wave k (is_plain_done rep)) ledger (answered txn k rep mark ledger live last).1.1

-- a copy that is done leads to no decision
abbrev pub CopiesDraw : Type 0
CopiesDraw = (txn : Txn) (done : CopyDone) (ledger : State Cell) (live : Mask) (last : List ℕ)
    → ((copied txn done ledger live last).1.1 ≡ ledger) ⊎ ((copied txn done ledger live last).1.1 ≡ with_number ledger)
