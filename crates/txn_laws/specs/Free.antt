-- Where all replicas of a set were reached, a split means that some cell has no replica that is free on it by the rows: one
-- whose copy is there, which does not accuse itself, and which fewer than a quorum accuse.
use Rattle.std.specs.Prelude.{◌≡◌, ℕ, ◌<◌, ◌⊎◌, true, List, Option, None, is_some, length, take}
use Rattle.fop_types.specs.declared.answers.IoError.TheVariants as io
use Rattle.fop_types.specs.declared.answers.SplitRow.{SplitRow}
use Rattle.fop_types.specs.declared.cells.Cell.{Cell}
use Rattle.fop_types.specs.declared.contents.Row.{Row}
use Rattle.afr_changelog.specs.Conviction.{IsCleared}
use Rattle.afr_changelog.specs.Soundness.{reached_in}
use Rattle.afr_ledger.specs.Ledger.{State}
use Rattle.afr_phases.specs.Shown.{rows_at}
use Rattle.afr_transaction.specs.declared.jobs.Kind.TheVariants as kind
use Rattle.afr_transaction.specs.declared.txn.Txn.{Txn}
use Rattle.afr_transaction.specs.Causes.{IsCause}
use Rattle.afr_transaction.specs.Jobs.{kind_of}
use Rattle.afr_transaction.specs.Reads.{lacks}

-- the rows of the `c`-th cell that the replicas of the set showed
abbrev pub rows_shown : Txn → ℕ → List (Option Row)
rows_shown job c = take job.size.n (rows_at job.shown c)

-- each replica of the set was reached, and showed a row for each cell
abbrev pub AllShow : Txn → Type 0
AllShow job = (c : ℕ) → c < length job.cells → reached_in (rows_shown job c) ≡ job.size.n

-- a replica that is free on the `c`-th cell
pub record HasFree (job : Txn) (c : ℕ) : Type 0 where
  pub replica : ℕ
  pub low : replica < job.size.n
  pub free : IsCleared (rows_shown job c) job.size.q replica

-- each cell has one; of a read, each that is not read as absent
abbrev pub EachHasFree : Txn → Type 0
EachHasFree job = (c : ℕ) → c < length job.cells → HasFree job c

abbrev pub EachReadHasFree : Txn → Type 0
EachReadHasFree job = (c : ℕ) → c < length job.cells → (lacks job c ≡ true) ⊎ HasFree job c

-- one replica is free on all cells
pub record OneIsFree (job : Txn) : Type 0 where
  pub replica : ℕ
  pub low : replica < job.size.n
  pub free : (c : ℕ) → c < length job.cells → IsCleared (rows_shown job c) job.size.q replica

-- what a job asks of its rows: a change and a read of each of their cells, a settling of all cells together
pub record HasItsFree (job : Txn) : Type 0 where
  pub change : job.settles ≡ None → kind_of job.job ≡ kind.Change → EachHasFree job
  pub read : job.settles ≡ None → kind_of job.job ≡ kind.Read → EachReadHasFree job
  pub settling : is_some job.settles ≡ true → OneIsFree job

-- the law: then no split has a cause
abbrev pub SplitsLackFree : Type 0
SplitsLackFree = (job : Txn) (ledger : State Cell) (set : ℕ) (rows : List SplitRow) → AllShow job → HasItsFree job → IsCause job ledger (io.Split set rows) → ⊥
