-- A transaction between two turns, and what each turn owes to the frame that keeps it, whatever the replies, the ledger and
-- the connections are. An answer either leaves others asked, or it is the last one and the transaction goes on.
use Rattle.std.specs.Prelude.{◌≡◌, ℕ, Bool, true, false, ◌&&◌, ◌||◌, List, [], ◌∷◌, is_none, is_some}
use Rattle.fop_types.specs.declared.cells.Cell.{Cell}
use Rattle.fop_types.specs.declared.contents.Mask.{Mask}
use Rattle.fop_types.specs.declared.copy_jobs.CopyDone.{CopyDone}
use Rattle.fop_types.specs.declared.jobs.Job.{Job}
use Rattle.fop_types.specs.declared.jobs.SetPlan.{SetPlan}
use Rattle.fop_types.specs.declared.messages.BrickRep.{BrickRep}
use Rattle.afr_ledger.specs.Ledger.{State}
use Rattle.afr_phases.specs.declared.wave.Wave.{Wave}
use Rattle.afr_phases.specs.Asked.{is_only, is_waiting, are_granted_within, IsLast, AreOthers, AreSent}
use Rattle.afr_phases.specs.CopyWork.{HasWork}
use Rattle.afr_phases.specs.Flags.{lowest, but_for}
use Rattle.afr_phases.specs.Waves.{is_asked, is_over}
use Rattle.afr_transaction.specs.declared.need.Need.{Need}
use Rattle.afr_transaction.specs.declared.need.Need.TheVariants as need
use Rattle.afr_transaction.specs.declared.phase.Part.{Part}
use Rattle.afr_transaction.specs.declared.phase.Phase.{Phase}
use Rattle.afr_transaction.specs.declared.phase.Phase.TheVariants as phase
use Rattle.afr_transaction.specs.declared.phase.Verdict.{Verdict}
use Rattle.afr_transaction.specs.declared.size.Size.{Size}
use Rattle.afr_transaction.specs.declared.txn.Txn.{Txn}
use Rattle.afr_transaction.specs.Answers.{answered, copied}
use Rattle.afr_transaction.specs.Begins.{fresh, started}

-- ---- between two turns

abbrev pub has_cell : List Cell → Bool
has_cell [] = false
has_cell (cell ∷ cells) = true

-- each part has something to be copied
abbrev pub have_cells : List Part → Bool
have_cells [] = true
have_cells (part ∷ parts) = has_cell part.cells && have_cells parts

-- a settling of a change: it has a cell, or else nobody is outside the group
abbrev pub is_group : Txn → Verdict → Bool
is_group txn verdict = is_some txn.settles && (has_cell txn.cells || is_none (lowest (but_for txn.shown.reached verdict.group)))

-- whether the phase waits for those who are asked: locks and contents are asked of one replica at a time
abbrev pub suits : Phase → Txn → Bool
suits (phase.Locking at) txn = is_only at txn.wave.asked
suits (phase.Unlocking after) txn = true
suits (phase.Fetching place from contents) txn = is_only from txn.wave.asked
suits (phase.Copying sinks rest) txn = false
suits (phase.Marking change) txn = true
suits (phase.Writing change) txn = true
suits (phase.Posting change adopted) txn = true
suits (phase.Settling verdict) txn = is_group txn verdict
suits phase.Bearing txn = true
suits phase.Opening txn = true
suits (phase.Listing all) txn = true
suits phase.Over txn = false

abbrev pub are_copies : Phase → Bool
are_copies (phase.Copying sinks rest) = have_cells rest
are_copies (phase.Locking at) = false
are_copies (phase.Unlocking after) = false
are_copies (phase.Fetching place from contents) = false
are_copies (phase.Marking change) = false
are_copies (phase.Writing change) = false
are_copies (phase.Posting change adopted) = false
are_copies (phase.Settling verdict) = false
are_copies phase.Bearing = false
are_copies phase.Opening = false
are_copies (phase.Listing all) = false
are_copies phase.Over = false

-- requests are unanswered
abbrev pub is_asking : Txn → Bool
is_asking txn = is_waiting txn.size.n txn.wave && (are_granted_within txn.size.n txn.locks && suits txn.phase txn)

-- a copy is under way, and nobody is asked
abbrev pub is_copying : Txn → Bool
is_copying txn = is_over txn.wave && (are_granted_within txn.size.n txn.locks && are_copies txn.phase)

-- ---- the turns

-- The transaction sends one request to each that is asked, and waits; or it asks for a copy that has something to do; or
-- it replies, with nobody asked.
abbrev pub GoesOn : Size → Txn → Need → Type 0
GoesOn size txn (need.Send list) = (txn.size ≡ size) × ((is_asking txn ≡ true) × AreSent txn.wave list)
GoesOn size txn (need.Copy job rows) = (txn.size ≡ size) × ((is_copying txn ≡ true) × HasWork size.n job)
GoesOn size txn (need.Reply reply) = (txn.size ≡ size) × (is_over txn.wave ≡ true)
GoesOn size txn need.Wait = ⊥

-- the answer of replica k, where these were asked: others are asked still, or it is the last one
abbrev pub AfterAnswer : Size → ℕ → Wave → Txn → Need → Type 0
AfterAnswer size k asked txn (need.Send list) = IsLast k asked × GoesOn size txn (need.Send list)
AfterAnswer size k asked txn (need.Copy job rows) = IsLast k asked × GoesOn size txn (need.Copy job rows)
AfterAnswer size k asked txn (need.Reply reply) = IsLast k asked × GoesOn size txn (need.Reply reply)
AfterAnswer size k asked txn need.Wait = (txn.size ≡ size) × ((is_asking txn ≡ true) × AreOthers k asked txn.wave)

abbrev pub BeginsGoOn : Type 0
BeginsGoOn = (size : Size) (set : SetPlan) (call : ℕ) (job : Job) (ledger : State Cell) (live : Mask) (last : List ℕ)
    → GoesOn size (started (fresh size set call job) ledger live last).0 (started (fresh size set call job) ledger live last).1

abbrev pub AnswersGoOn : Type 0
AnswersGoOn = (txn : Txn) (k mark : ℕ) (rep : BrickRep) (ledger : State Cell) (live : Mask) (last : List ℕ)
    → is_asking txn ≡ true → is_asked txn.wave k ≡ true
    → AfterAnswer txn.size k txn.wave (answered txn k rep mark ledger live last).0 (answered txn k rep mark ledger live last).1.0

abbrev pub CopiesGoOn : Type 0
CopiesGoOn = (txn : Txn) (done : CopyDone) (ledger : State Cell) (live : Mask) (last : List ℕ)
    → is_copying txn ≡ true
    → GoesOn txn.size (copied txn done ledger live last).0 (copied txn done ledger live last).1.0
