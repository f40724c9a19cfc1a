-- A run of a job: it begins, and then answers and finished copies are handed in to it, one after another, each with the ledger and
-- the connections of its moment, whatever others did to them since. An answer is of a replica that is asked, a copy is one that was
-- asked for, and nothing is handed in to a job that has replied. Then the laws of a turn hold of each.
use Rattle.std.specs.Prelude.{◌≡◌, ℕ, ◌<◌, ◌⊎◌, Bool, true, false, ◌&&◌, ◌||◌, ◌==◌, if◌then◌else◌, List, [], ◌∷◌, Some, None, slice_index_or}
use Rattle.fop_types.specs.declared.answers.IoError.{IoError}
use Rattle.fop_types.specs.declared.answers.IoError.TheVariants as io
use Rattle.fop_types.specs.declared.answers.SplitRow.{SplitRow}
use Rattle.fop_types.specs.declared.cells.Cell.{Cell}
use Rattle.fop_types.specs.declared.contents.Mask.{Mask}
use Rattle.fop_types.specs.declared.contents.Row.{Row}
use Rattle.fop_types.specs.declared.copy_jobs.CopyDone.{CopyDone}
use Rattle.fop_types.specs.declared.copy_jobs.Out.{Out}
use Rattle.fop_types.specs.declared.jobs.Job.{Job}
use Rattle.fop_types.specs.declared.jobs.SetPlan.{SetPlan}
use Rattle.fop_types.specs.declared.jobs.SetReply.{SetReply}
use Rattle.fop_types.specs.declared.jobs.SetReply.TheVariants as reply
use Rattle.fop_types.specs.declared.messages.BrickRep.{BrickRep}
use Rattle.afr_ledger.specs.Ledger.{State, with_number}
use Rattle.afr_phases.specs.declared.wave.Wave.{Wave}
use Rattle.afr_phases.specs.Answers.{is_fault, is_plain_done}
use Rattle.afr_phases.specs.Flags.{flag}
use Rattle.afr_phases.specs.Outs.{left}
use Rattle.afr_phases.specs.Waves.{is_asked, taken}
use Rattle.afr_transaction.specs.declared.need.Need.{Need}
use Rattle.afr_transaction.specs.declared.need.Need.TheVariants as need
use Rattle.afr_transaction.specs.declared.phase.Phase.TheVariants as phase
use Rattle.afr_transaction.specs.declared.phase.Verdict.{Verdict}
use Rattle.afr_transaction.specs.declared.size.Size.{Size}
use Rattle.afr_transaction.specs.declared.txn.Txn.{Txn}
use Rattle.afr_transaction.specs.Answers.{answered, copied}
use Rattle.afr_transaction.specs.Begins.{fresh, started}
use Rattle.afr_transaction.specs.Causes.{DecidedHasCause, IsKeptOrHasCause, reply_in, reply_of}
use Rattle.afr_transaction.specs.Changes.{effect_of}
use Rattle.afr_transaction.specs.Copies.{with_outs}
use Rattle.afr_transaction.specs.Moves.{IsMove}
use Rattle.afr_transaction.specs.Ops.{OpsAreConfirmed}
use Rattle.afr_transaction.specs.Requests.{PostsAccuse, Sends}
use Rattle.afr_transaction.specs.Shapes.{AfterAnswer, GoesOn}
use Rattle.txn_laws.specs.Granted.{is_as_asked, rows_by, IsGrant, IsLocking, IsShowing, KnowsNone}
use Rattle.txn_laws.specs.Laws.{DrawsToMark, PostTurn, SettleTurn}
use Rattle.txn_laws.specs.Lists.{error_in, ListsAll}
use Rattle.txn_laws.specs.Outs.{IsAmong, IsOutBy, WasLost}
use Rattle.txn_laws.specs.Own.{IsSameJob}
use Rattle.txn_laws.specs.Splits.{SplitHasQuorum}

-- ---- what is handed in

pub data Event : Type 0 where
  Answer : ℕ → ℕ → BrickRep → State Cell → Mask → List ℕ → Event
  Finish : CopyDone → State Cell → Mask → List ℕ → Event

abbrev pub turn : Event → Txn → Txn × (Need × State Cell)
turn (Answer k mark rep ledger live last) txn = answered txn k rep mark ledger live last
turn (Finish done ledger live last) txn = copied txn done ledger live last

-- what the last turn asked for
abbrev pub AwaitsAnswer : Need → Type 0
AwaitsAnswer (need.Send list) = Unit {0}
AwaitsAnswer (need.Copy job rows) = ⊥
AwaitsAnswer (need.Reply reply) = ⊥
AwaitsAnswer need.Wait = Unit {0}

abbrev pub AwaitsCopy : Need → Type 0
AwaitsCopy (need.Send list) = ⊥
AwaitsCopy (need.Copy job rows) = Unit {0}
AwaitsCopy (need.Reply reply) = ⊥
AwaitsCopy need.Wait = ⊥

abbrev pub IsEvent : Event → Txn → Need → Type 0
IsEvent (Answer k mark rep ledger live last) txn needed = AwaitsAnswer needed × (is_asked txn.wave k ≡ true)
IsEvent (Finish done ledger live last) txn needed = AwaitsCopy needed

abbrev pub AreEvents : List Event → Txn → Need → Type 0
AreEvents [] txn needed = Unit {0}
AreEvents (event ∷ events) txn needed = IsEvent event txn needed × AreEvents events (turn event txn).0 (turn event txn).1.0

-- ---- what was answered to the requests that were sent last

-- by whom, and whether it was as asked; the last answer comes first
abbrev pub with_answer : Event → Txn → List (ℕ × Bool) → List (ℕ × Bool)
with_answer (Answer k mark rep ledger live last) txn said = (k, is_as_asked txn.phase txn.cells rep) ∷ said
with_answer (Finish done ledger live last) txn said = said

-- with new requests all begins anew
abbrev pub since_sent : Need → List (ℕ × Bool) → List (ℕ × Bool)
since_sent (need.Send list) said = []
since_sent (need.Copy job rows) said = said
since_sent (need.Reply reply) said = said
since_sent need.Wait said = said

-- replica j has answered as asked
abbrev pub has_said : List (ℕ × Bool) → ℕ → Bool
has_said [] j = false
has_said (one ∷ said) j = (j == one.0 && one.1) || has_said said j

-- the confirmations are the answers as asked
abbrev pub AreSaid : Wave → List (ℕ × Bool) → Type 0
AreSaid wave said = (j : ℕ) → j < 5 → flag wave.confirmed j ≡ has_said said j

-- ---- the laws of a turn

-- The turn of an answer, where `said` was answered to the requests before. Each request is of its phase, and goes to a replica
-- that granted its lock where it is under one; ops go to those who confirmed the mark, and posts accuse exactly those who did not
-- confirm the op; at most one number is drawn; a post and a settle decide with the q-th confirmation.
pub record AnswerIsLawful (txn : Txn) (k mark : ℕ) (rep : BrickRep) (ledger : State Cell) (live : Mask) (last : List ℕ) (said : List (ℕ × Bool)) (t : Txn × (Need × State Cell)) : Type 0 where
  pub own : IsSameJob txn t.0
  pub goes_on : AfterAnswer txn.size k txn.wave t.0 t.1.0
  pub sends : Sends t.0 t.1.0
  pub confirmed : AreSaid (taken txn.wave k (is_as_asked txn.phase txn.cells rep)) said
  pub ops : (change : ℕ) → txn.phase ≡ phase.Marking change → OpsAreConfirmed (taken txn.wave k (is_as_asked txn.phase txn.cells rep)) t.1.0
  pub posts : (change : ℕ) → txn.phase ≡ phase.Writing change → PostsAccuse txn.size.n (taken txn.wave k (is_as_asked txn.phase txn.cells rep)) t.1.0
  pub draws : DrawsToMark ledger t
  pub moves : IsMove txn (taken txn.wave k (is_plain_done rep)) ledger t.1.1
  pub adopts : (change : ℕ) → txn.phase ≡ phase.Posting change None → PostTurn txn.size.q (effect_of txn.job) change ledger (taken txn.wave k (is_as_asked txn.phase txn.cells rep)) t
  pub settles : (verdict : Verdict) → txn.phase ≡ phase.Settling verdict → verdict.decided ≡ false → SettleTurn txn.size.q verdict ledger (taken txn.wave k (is_as_asked txn.phase txn.cells rep)) t
  pub outs : (j : ℕ) (out : Out) → slice_index_or t.0.outs.at j None ≡ Some out → (slice_index_or txn.outs.at j None ≡ Some out) ⊎ (IsOutBy txn k mark rep j out ⊎ WasLost txn.locks live last j)
  pub grants : (j connection : ℕ) → slice_index_or t.0.locks.at j None ≡ Some connection → (slice_index_or txn.locks.at j None ≡ Some connection) ⊎ IsGrant txn k rep last j connection
  pub rows : (j : ℕ) (rows : List Row) → rows_by t.0.shown j ≡ Some rows → (rows_by txn.shown j ≡ Some rows) ⊎ IsShowing txn k rep j rows
  pub begins : (at : ℕ) → t.0.phase ≡ phase.Locking at → IsLocking txn.phase ⊎ KnowsNone t.0
  pub causes : IsKeptOrHasCause (reply_in txn.phase) t.0 t.1.1 t.1.0
  pub lists : (r : SetReply) (error : IoError) → reply_in txn.phase ≡ None → reply_of t.0 t.1.0 ≡ Some r → error_in r ≡ Some error
      → ListsAll txn t.0 t.1.1 error (if is_as_asked txn.phase txn.cells rep then txn.outs else left txn.outs k (is_fault rep) mark)
  pub splits : (number : ℕ) (rows : List SplitRow) → reply_in txn.phase ≡ None → reply_of t.0 t.1.0 ≡ Some (reply.Io (io.Split number rows)) → SplitHasQuorum txn t.0 t.1.1 (io.Split number rows)

-- the turn of a copy that is done
pub record CopyIsLawful (txn : Txn) (done : CopyDone) (ledger : State Cell) (live : Mask) (last : List ℕ) (t : Txn × (Need × State Cell)) : Type 0 where
  pub own : IsSameJob txn t.0
  pub goes_on : GoesOn txn.size t.0 t.1.0
  pub sends : Sends t.0 t.1.0
  pub draws : DrawsToMark ledger t
  pub moves : (t.1.1 ≡ ledger) ⊎ (t.1.1 ≡ with_number ledger)
  pub outs : (j : ℕ) (out : Out) → slice_index_or t.0.outs.at j None ≡ Some out → (slice_index_or txn.outs.at j None ≡ Some out) ⊎ (IsAmong out done.outs ⊎ WasLost txn.locks live last j)
  pub begins : (at : ℕ) → t.0.phase ≡ phase.Locking at → IsLocking txn.phase ⊎ KnowsNone t.0
  pub causes : DecidedHasCause t.0 t.1.1 (reply_of t.0 t.1.0)
  pub lists : (r : SetReply) (error : IoError) → reply_of t.0 t.1.0 ≡ Some r → error_in r ≡ Some error → ListsAll txn t.0 t.1.1 error (with_outs txn.size.n txn.outs done.outs)
  pub splits : (number : ℕ) (rows : List SplitRow) → reply_of t.0 t.1.0 ≡ Some (reply.Io (io.Split number rows)) → ⊥

abbrev pub TurnIsLawful : Event → Txn → List (ℕ × Bool) → Type 0
TurnIsLawful (Answer k mark rep ledger live last) txn said =
    AnswerIsLawful txn k mark rep ledger live last (with_answer (Answer k mark rep ledger live last) txn said) (turn (Answer k mark rep ledger live last) txn)
TurnIsLawful (Finish done ledger live last) txn said = CopyIsLawful txn done ledger live last (turn (Finish done ledger live last) txn)

abbrev pub TurnsAreLawful : List Event → Txn → List (ℕ × Bool) → Type 0
TurnsAreLawful [] txn said = Unit {0}
TurnsAreLawful (event ∷ events) txn said =
    TurnIsLawful event txn said × TurnsAreLawful events (turn event txn).0 (since_sent (turn event txn).1.0 (with_answer event txn said))

-- ---- the law

abbrev pub RunsAreLawful : Type 0
RunsAreLawful = (size : Size) (set : SetPlan) (call : ℕ) (job : Job) (ledger : State Cell) (live : Mask) (last : List ℕ) (events : List Event)
    → AreEvents events (started (fresh size set call job) ledger live last).0 (started (fresh size set call job) ledger live last).1
    → TurnsAreLawful events (started (fresh size set call job) ledger live last).0 []
