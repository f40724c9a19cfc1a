-- What was fetched for a copy is the source's copy still, and what a sink confirmed is in its place, while the transaction that
-- copies holds its lock there. Ours.
use Rattle.std.specs.Prelude.{◌≡◌, ℕ, Bool, true, false, Option, Some}
use Rattle.fop_types.specs.declared.cells.Cell.{Cell}
use Rattle.afr_machine.specs.Replicas.{Size}
use Rattle.afr_machine.specs.Touching.{has_cell}
use Rattle.afr_machine.specs.Copies.{Store, Fetched, fetched_of}
use Rattle.afr_machine.specs.Requests.{Sender, Ask, Answer}
use Rattle.afr_machine.specs.Requests.Ask.{Fetch, Replace}
use Rattle.afr_machine.specs.Requests.Answer.{Done, Content}
use Rattle.afr_machine.specs.Transactions.{CopyRun, Stage}
use Rattle.afr_machine.specs.Transactions.Stage.{Copying}
use Rattle.afr_machine.specs.States.{State, is_current}
use Rattle.afr_machine.specs.Turns.{open_grants}
use Rattle.afr_machine.specs.Steps.{IsReached}
use Rattle.afr_soundness.specs.Replies.{EachReply}

-- the copy of the cell, with its last change
abbrev pub copy_in : Store → Cell → Option Fetched
copy_in store cell = fetched_of (store cell).copy (store cell).last

abbrev pub copy_at : State → ℕ → Cell → Option Fetched
copy_at m k cell = copy_in (m.bricks k).store cell

abbrev pub is_copying : Stage → Bool
is_copying (Copying run) = true
is_copying other = false

-- the transaction copies, uses the brick still, and has its grant there on the connection that is open
pub record Uses (m : State) (t k : ℕ) : Type 0 where
  pub copying : is_copying (m.txns t).stage ≡ true
  pub not_out : (m.txns t).out k ≡ false
  pub granted : open_grants m t k ≡ true

-- the answer of a fetch is the copy that is there, and so is what was put there by a replacement
abbrev pub ShowsCopy : State → ℕ → Sender → Ask → Answer → Type 0
ShowsCopy m k by (Fetch cell) (Content found) = is_current (m.links k by.graph) by.connection ≡ true → Uses m by.txn k → copy_at m k cell ≡ Some found
ShowsCopy m k by (Replace cell found) Done = is_current (m.links k by.graph) by.connection ≡ true → Uses m by.txn k → copy_at m k cell ≡ Some found
ShowsCopy m k by ask answer = Unit {0}

abbrev pub AnswersShowCopies : State → Type 0
AnswersShowCopies m = (k : ℕ) → EachReply (ShowsCopy m k) (m.bricks k).outputs

-- it was fetched from a source, and is its copy still
pub record IsFetched (m : State) (t : ℕ) (run : CopyRun) (cell : Cell) (found : Fetched) : Type 0 where
  pub of_run : has_cell run.cells cell ≡ true
  pub source : ℕ
  pub is_source : run.sources source ≡ true
  pub stands : Uses m t source → copy_at m source cell ≡ Some found

-- what was fetched is the sink's copy
pub record IsReplacedAt (m : State) (t k : ℕ) (run : CopyRun) (cell : Cell) : Type 0 where
  pub of_run : has_cell run.cells cell ≡ true
  pub is_sink : run.sinks k ≡ true
  pub found : Fetched
  pub fetched : run.fetched cell ≡ Some found
  pub stands : Uses m t k → copy_at m k cell ≡ Some found

pub record CopiesStand (m : State) : Type 0 where
  pub answers : AnswersShowCopies m
  pub fetched : (t : ℕ) (run : CopyRun) → (m.txns t).stage ≡ Copying run → (cell : Cell) (found : Fetched) → run.fetched cell ≡ Some found → IsFetched m t run cell found
  pub replaced : (t : ℕ) (run : CopyRun) → (m.txns t).stage ≡ Copying run → (k : ℕ) (cell : Cell) → run.replaced k cell ≡ true → IsReplacedAt m t k run cell

abbrev pub EveryCopyStands : Type 0
EveryCopyStands = (size : Size) (m : State) → IsReached size m → CopiesStand m
