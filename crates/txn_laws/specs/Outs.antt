-- Who is out, whatever a turn does: by an answer other than the one that was asked, in a copy, or as lost. An I/O error lists
-- each with its mark: the place or the connection of that answer, or the number of its last connection.
use Rattle.std.specs.Prelude.{◌≡◌, ◌≢◌, ℕ, ◌⊎◌, true, false, List, [], ◌∷◌, Some, None, slice_index, slice_index_or}
use Rattle.fop_types.specs.declared.cells.Cell.{Cell}
use Rattle.fop_types.specs.declared.contents.Mask.{Mask}
use Rattle.fop_types.specs.declared.copy_jobs.CopyDone.{CopyDone}
use Rattle.fop_types.specs.declared.copy_jobs.Out.{Out}
use Rattle.fop_types.specs.declared.jobs.Job.{Job}
use Rattle.fop_types.specs.declared.jobs.SetPlan.{SetPlan}
use Rattle.fop_types.specs.declared.messages.BrickRep.{BrickRep}
use Rattle.afr_ledger.specs.Ledger.{State}
use Rattle.afr_phases.specs.declared.locks.Locks.{Locks}
use Rattle.afr_phases.specs.Answers.{is_fault}
use Rattle.afr_phases.specs.Flags.{names}
use Rattle.afr_phases.specs.Marks.{IsLost, AreLostSince}
use Rattle.afr_phases.specs.Outs.{no_outs}
use Rattle.afr_phases.specs.Waves.{is_asked}
use Rattle.afr_transaction.specs.declared.size.Size.{Size}
use Rattle.afr_transaction.specs.declared.txn.Txn.{Txn}
use Rattle.afr_transaction.specs.Answers.{answered, copied}
use Rattle.afr_transaction.specs.Begins.{fresh, started}
use Rattle.afr_transaction.specs.Requests.{Keeps}
use Rattle.afr_transaction.specs.Shapes.{is_asking, is_copying}
use Rattle.txn_laws.specs.Granted.{is_as_asked, Follows}

-- ---- by an answer, and in a copy

-- replica j is out by an answer of replica k: it was not the one that was asked
pub record IsOutBy (txn : Txn) (k mark : ℕ) (rep : BrickRep) (j : ℕ) (out : Out) : Type 0 where
  pub replica : j ≡ k
  pub out_is : out ≡ record { replica = k; fault = is_fault rep; mark = mark }
  pub other : is_as_asked txn.phase txn.cells rep ≡ false

-- the replica is out as it went out in a copy
pub record IsSame (out one : Out) : Type 0 where
  pub replica : out.replica ≡ one.replica
  pub fault : out.fault ≡ one.fault
  pub mark : out.mark ≡ one.mark

abbrev pub IsAmong : Out → List Out → Type 0
IsAmong out [] = ⊥
IsAmong out (one ∷ list) = IsSame out one ⊎ IsAmong out list

-- ---- as lost

-- replica j is out as lost, with the number of its last connection
pub record IsLostAs (last : List ℕ) (j : ℕ) (out : Out) : Type 0 where
  pub is : IsLost last out
  pub replica : out.replica ≡ j

-- the replica granted its lock on a connection that is not its last
pub record LostLock (locks : Locks) (last : List ℕ) (k : ℕ) : Type 0 where
  pub connection : ℕ
  pub granted : slice_index_or locks.at k None ≡ Some connection
  pub other : slice_index last k ≢ connection

-- it has no open connection, or has lost its lock with its connection
abbrev pub WasLost : Locks → Mask → List ℕ → ℕ → Type 0
WasLost locks live last k = (names live k ≡ false) ⊎ LostLock locks last k

-- ---- the laws: with which marks replicas are out

abbrev pub BeginsOut : Type 0
BeginsOut = (size : Size) (set : SetPlan) (call : ℕ) (job : Job) (ledger : State Cell) (live : Mask) (last : List ℕ)
    → AreLostSince last no_outs (started (fresh size set call job) ledger live last).0.outs

-- each that is out after an answer was out before, is out by this answer, or as lost
abbrev pub AnswersOut : Type 0
AnswersOut = (txn : Txn) (k mark : ℕ) (rep : BrickRep) (ledger : State Cell) (live : Mask) (last : List ℕ) (j : ℕ) (out : Out)
    → slice_index_or (answered txn k rep mark ledger live last).0.outs.at j None ≡ Some out
    → (slice_index_or txn.outs.at j None ≡ Some out) ⊎ (IsOutBy txn k mark rep j out ⊎ IsLostAs last j out)

-- each that is out after a copy was out before, went out in the copy, or is out as lost
abbrev pub CopiesOut : Type 0
CopiesOut = (txn : Txn) (done : CopyDone) (ledger : State Cell) (live : Mask) (last : List ℕ) (j : ℕ) (out : Out)
    → slice_index_or (copied txn done ledger live last).0.outs.at j None ≡ Some out
    → (slice_index_or txn.outs.at j None ≡ Some out) ⊎ (IsAmong out done.outs ⊎ IsLostAs last j out)

-- ---- the laws: who is out as lost was lost

-- at the begin nobody has a lock
abbrev pub BeginsLose : Type 0
BeginsLose = (size : Size) (set : SetPlan) (call : ℕ) (job : Job) (ledger : State Cell) (live : Mask) (last : List ℕ) (j : ℕ) (out : Out)
    → slice_index_or (started (fresh size set call job) ledger live last).0.outs.at j None ≡ Some out
    → names live j ≡ false

-- the grants are those from before the turn: this answer's is on the last connection
abbrev pub AnswersLose : Type 0
AnswersLose = (txn : Txn) (k mark : ℕ) (rep : BrickRep) (ledger : State Cell) (live : Mask) (last : List ℕ) (j : ℕ) (out : Out)
    → is_asking txn ≡ true → Keeps txn → is_asked txn.wave k ≡ true → Follows txn
    → slice_index_or (answered txn k rep mark ledger live last).0.outs.at j None ≡ Some out
    → (slice_index_or txn.outs.at j None ≡ Some out) ⊎ (IsOutBy txn k mark rep j out ⊎ WasLost txn.locks live last j)

abbrev pub CopiesLose : Type 0
CopiesLose = (txn : Txn) (done : CopyDone) (ledger : State Cell) (live : Mask) (last : List ℕ) (j : ℕ) (out : Out)
    → is_copying txn ≡ true → Keeps txn → Follows txn
    → slice_index_or (copied txn done ledger live last).0.outs.at j None ≡ Some out
    → (slice_index_or txn.outs.at j None ≡ Some out) ⊎ (IsAmong out done.outs ⊎ WasLost txn.locks live last j)
