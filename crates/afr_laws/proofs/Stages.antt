-- What a reply makes of the stage of its transaction.
use Rattle.std.proofs.Common.{◌≡◌, ℕ, Bool, true, false, refl, sym, subst, Some, None}
use Rattle.std.specs.Prelude.{if◌then◌else◌, List}
use Rattle.fop_types.specs.declared.cells.Cell.{Cell}
use Rattle.fop_types.specs.declared.contents.Row.{Row}
use Rattle.afr_machine.specs.Replicas.{with_at}
use Rattle.afr_machine.specs.Copies.{Fetched}
use Rattle.afr_machine.specs.Requests.{Ask, Answer}
use Rattle.afr_machine.specs.Requests.Ask.{Lock, Unlock, Fetch, Replace}
use Rattle.afr_machine.specs.Requests.Answer.{Rows, Content}
use Rattle.afr_machine.specs.Transactions.{Stage, Txn, CopyRun}
use Rattle.afr_machine.specs.Transactions.Stage.{Copying}
use Rattle.afr_machine.specs.Answering.{is_wanted, passed, missing, granting, having, fetching, replacing, taking, hearing}
use Rattle.afr_laws.specs.Waiting.{IsCopying}

-- the stage stays, passes the turn on, or is that of a copy before and after
pub data StageGoes (old new : Stage) : Type 0 where
  StaysIn : new ≡ old → StageGoes old new
  PassesOn : new ≡ passed old → StageGoes old new
  CopiesOn : IsCopying old → IsCopying new → StageGoes old new

copies : (stage : Stage) (run : CopyRun) → stage ≡ Copying run → IsCopying stage
copies stage run is = subst IsCopying (sym is) tt

module _ (x : Txn) (k connection : ℕ) where
  granting_stage : (shared : Bool) (cells : List Cell) (answer : Answer) → StageGoes x.stage (granting x k connection shared cells answer).stage
  granting_stage shared cells (Rows rows) = StageGoes.PassesOn refl
  granting_stage shared cells other = StageGoes.StaysIn refl

  fetching_stage : (stage : Stage) (cell : Cell) (found : Fetched) → x.stage ≡ stage → StageGoes x.stage (fetching x stage cell found).stage
  fetching_stage (Copying run) cell found is = StageGoes.CopiesOn (copies x.stage run is) tt
  fetching_stage other cell found is = StageGoes.StaysIn refl

  having_stage : (cell : Cell) (answer : Answer) → StageGoes x.stage (having x cell answer).stage
  having_stage cell (Content found) = fetching_stage x.stage cell found refl
  having_stage cell other = StageGoes.StaysIn refl

  replacing_stage : (stage : Stage) (cell : Cell) → x.stage ≡ stage → StageGoes x.stage (replacing x stage k cell).stage
  replacing_stage (Copying run) cell is = StageGoes.CopiesOn (copies x.stage run is) tt
  replacing_stage other cell is = StageGoes.StaysIn refl

  taking_stage : (ask : Ask) (answer : Answer) → StageGoes x.stage (taking x k connection ask answer).stage
  taking_stage (Lock shared cells) answer = granting_stage shared cells answer
  taking_stage (Fetch cell) answer = having_stage cell answer
  taking_stage (Replace cell found) answer = replacing_stage x.stage cell refl
  taking_stage other answer = StageGoes.StaysIn refl

  pub hearing_stage : (ask : Ask) (answer : Answer) → StageGoes x.stage (hearing x k connection ask answer).stage
  hearing_stage ask answer = by_case (is_wanted ask answer) where
    by_case : (b : Bool) → StageGoes x.stage (if b then taking x k connection ask answer else missing x k).stage
    by_case true = taking_stage ask answer
    by_case false = StageGoes.PassesOn refl

-- ---- grants

-- the grants are as they were, or a lock was granted, or one was released
pub data GrantsGo (x new : Txn) (k connection : ℕ) (ask : Ask) (answer : Answer) : Type 0 where
  SameGrants : new.grants ≡ x.grants → GrantsGo x new k connection ask answer
  Granted : (shared : Bool) → (cells : List Cell) → (rows : Cell → Row) → ask ≡ Lock shared cells → answer ≡ Rows rows →
      new.grants ≡ with_at x.grants k (Some (record { connection = connection; shared = shared; cells = cells; rows = rows })) → new.stage ≡ passed x.stage → GrantsGo x new k connection ask answer
  Released : ask ≡ Unlock → new.grants ≡ with_at x.grants k None → GrantsGo x new k connection ask answer

module _ (x : Txn) (k connection : ℕ) where
  granting_grants : (shared : Bool) (cells : List Cell) (answer : Answer) → GrantsGo x (granting x k connection shared cells answer) k connection (Lock shared cells) answer
  granting_grants shared cells (Rows rows) = GrantsGo.Granted shared cells rows refl refl refl refl
  granting_grants shared cells other = GrantsGo.SameGrants refl

  fetching_grants : (stage : Stage) (cell : Cell) (found : Fetched) → (fetching x stage cell found).grants ≡ x.grants
  fetching_grants (Copying run) cell found = refl
  fetching_grants other cell found = refl

  having_grants : (cell : Cell) (answer : Answer) → (having x cell answer).grants ≡ x.grants
  having_grants cell (Content found) = fetching_grants x.stage cell found
  having_grants cell other = refl

  replacing_grants : (stage : Stage) (cell : Cell) → (replacing x stage k cell).grants ≡ x.grants
  replacing_grants (Copying run) cell = refl
  replacing_grants other cell = refl

  taking_grants : (ask : Ask) (answer : Answer) → GrantsGo x (taking x k connection ask answer) k connection ask answer
  taking_grants (Lock shared cells) answer = granting_grants shared cells answer
  taking_grants Unlock answer = GrantsGo.Released refl refl
  taking_grants (Fetch cell) answer = GrantsGo.SameGrants (having_grants cell answer)
  taking_grants (Replace cell found) answer = GrantsGo.SameGrants (replacing_grants x.stage cell)
  taking_grants other answer = GrantsGo.SameGrants refl

  pub hearing_grants : (ask : Ask) (answer : Answer) → GrantsGo x (hearing x k connection ask answer) k connection ask answer
  hearing_grants ask answer = by_case (is_wanted ask answer) where
    by_case : (b : Bool) → GrantsGo x (if b then taking x k connection ask answer else missing x k) k connection ask answer
    by_case true = taking_grants ask answer
    by_case false = GrantsGo.SameGrants refl
