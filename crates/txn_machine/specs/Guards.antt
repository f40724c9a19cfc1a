-- Each request that a turn sends meets its guard, in every state of the machine that is that of the moment after the turn.
use Rattle.std.specs.Prelude.{◌≡◌, ℕ, ◌<◌, true, false, List, Option}
use Rattle.fop_types.specs.Bounds.{Each}
use Rattle.fop_types.specs.declared.cells.Cell.{Cell}
use Rattle.fop_types.specs.declared.contents.Mask.{Mask}
use Rattle.fop_types.specs.declared.copy_jobs.CopyDone.{CopyDone}
use Rattle.fop_types.specs.declared.jobs.Job.{Job}
use Rattle.fop_types.specs.declared.jobs.SetPlan.{SetPlan}
use Rattle.fop_types.specs.declared.messages.BrickRep.{BrickRep}
use Rattle.fop_types.specs.declared.messages.BrickReq.{BrickReq}
use Rattle.afr_ledger.specs.Ledger.{State as Ledger}
use Rattle.afr_machine.specs.Replicas.{Size}
use Rattle.afr_machine.specs.States.{State}
use Rattle.afr_machine.specs.Steps.{MayMiss}
use Rattle.afr_phases.specs.declared.wave.Wave.{Wave}
use Rattle.afr_phases.specs.Answers.{is_plain_done}
use Rattle.afr_phases.specs.Flags.{flag}
use Rattle.afr_phases.specs.Locks.{keeps}
use Rattle.afr_phases.specs.Waves.{is_asked, quiet, taken}
use Rattle.afr_transaction.specs.declared.need.Need.{Need}
use Rattle.afr_transaction.specs.declared.need.Need.TheVariants as need
use Rattle.afr_transaction.specs.declared.phase.Adopted.{Adopted}
use Rattle.afr_transaction.specs.declared.phase.Phase.TheVariants as phase
use Rattle.afr_transaction.specs.declared.size.Size.{Size as SetSize}
use Rattle.afr_transaction.specs.declared.txn.Txn.{Txn}
use Rattle.afr_transaction.specs.Answers.{answered, copied}
use Rattle.afr_transaction.specs.Begins.{fresh, started}
use Rattle.afr_transaction.specs.Requests.{Keeps}
use Rattle.afr_transaction.specs.Shapes.{is_asking, is_copying}
use Rattle.txn_machine.specs.Asks.{ask_of, MayBeAsked}
use Rattle.txn_machine.specs.Records.{asks_members, asks_at_once, IsRecordOf, AreLinksOf, IsLedgerOf, AreBirthsApart}
use Rattle.txn_machine.specs.Works.{Works}

-- The state is that of the moment after a turn that was told of these connections and left this ledger. `wave` has the
-- confirmations of the phase before, with the answer of this turn: where a post follows, it was that of the op, and the op
-- winds of these replicas ended with Done.
pub record IsAfter (size : Size) (m : State) (t : ℕ) (txn : Txn) (wave : Wave) (ledger : Ledger Cell) (live : Mask) (last : List ℕ) : Type 0 where
  pub itself : IsRecordOf size m t txn
  pub links : AreLinksOf size m t live last
  pub unsettled : IsLedgerOf m txn.set ledger
  pub done : (change : ℕ) (adopted : Option Adopted) → txn.phase ≡ phase.Posting change adopted → (k : ℕ) → k < size.replicas → (m.changes change).done k ≡ flag wave.confirmed k
  pub apart : (change : ℕ) → txn.phase ≡ phase.Writing change → AreBirthsApart m t txn.job

-- The request to a replica meets its guard. A member of a lock phase that has lost its lock with its connection is not asked:
-- it is missed, where it is one of several; a read waits for it no more.
pub record MeetsGuard (size : Size) (m : State) (t : ℕ) (txn : Txn) (live : Mask) (last : List ℕ) (k : ℕ) (r : BrickReq) : Type 0 where
  pub asked : (asks_members txn.phase ≡ true → keeps txn.locks k live last ≡ true) → MayBeAsked size m t k (ask_of txn.settles r)
  pub missed : asks_members txn.phase ≡ true → asks_at_once txn.phase ≡ true → keeps txn.locks k live last ≡ false → MayMiss m t k

abbrev pub AreMet : Txn → Need → Wave → Ledger Cell → Mask → List ℕ → Type 0
AreMet txn (need.Send list) wave ledger live last =
    (size : Size) (m : State) (t : ℕ) → IsAfter size m t txn wave ledger live last → Each (λ (r : ℕ × BrickReq). MeetsGuard size m t txn live last r.0 r.1) list
AreMet txn (need.Copy job rows) wave ledger live last = Unit {0}
AreMet txn (need.Reply reply) wave ledger live last = Unit {0}
AreMet txn need.Wait wave ledger live last = Unit {0}

-- ---- the laws

abbrev pub BeginsMeet : Type 0
BeginsMeet = (size : SetSize) (set : SetPlan) (call : ℕ) (job : Job) (ledger : Ledger Cell) (live : Mask) (last : List ℕ)
    → Works (started (fresh size set call job) ledger live last).0
    × AreMet (started (fresh size set call job) ledger live last).0 (started (fresh size set call job) ledger live last).1 quiet ledger live last

abbrev pub AnswersMeet : Type 0
AnswersMeet = (txn : Txn) (k mark : ℕ) (rep : BrickRep) (ledger : Ledger Cell) (live : Mask) (last : List ℕ)
    → is_asking txn ≡ true → Keeps txn → Works txn → is_asked txn.wave k ≡ true
    → Works (answered txn k rep mark ledger live last).0
    × AreMet (answered txn k rep mark ledger live last).0 (answered txn k rep mark ledger live last).1.0 (taken txn.wave k (is_plain_done rep)) (answered txn k rep mark ledger live last).1.1 live last

abbrev pub CopiesMeet : Type 0
CopiesMeet = (txn : Txn) (done : CopyDone) (ledger : Ledger Cell) (live : Mask) (last : List ℕ)
    → is_copying txn ≡ true → Keeps txn → Works txn
    → Works (copied txn done ledger live last).0
    × AreMet (copied txn done ledger live last).0 (copied txn done ledger live last).1.0 quiet (copied txn done ledger live last).1.1 live last
