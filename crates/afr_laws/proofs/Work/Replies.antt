-- What a reply leaves of a transaction's work.
use Rattle.std.proofs.Common.{◌≡◌, ◌∙◌, ℕ, Bool, true, false, refl, sym, ap, subst, Option, Some, None}
use Rattle.std.specs.Prelude.{if◌then◌else◌, List}
use Rattle.fop_types.specs.declared.cells.Cell.{Cell}
use Rattle.fop_types.specs.declared.contents.Row.{Row}
use Rattle.afr_machine.specs.Copies.{Fetched}
use Rattle.afr_machine.specs.Requests.{Ask, Answer}
use Rattle.afr_machine.specs.Requests.Ask.{Lock, Fetch, Replace}
use Rattle.afr_machine.specs.Requests.Answer.{Rows, Content}
use Rattle.afr_machine.specs.Changes.{Change}
use Rattle.afr_machine.specs.Transactions.{Stage, Grant, Txn}
use Rattle.afr_machine.specs.Transactions.Stage.{Locking, Copying}
use Rattle.afr_machine.specs.Births.{cells_of_work}
use Rattle.afr_machine.specs.Answering.{is_wanted, passed, missing, granting, having, fetching, replacing, taking, hearing, awaits, at_rest}
use Rattle.afr_laws.specs.Fresh.{AsksFor}
use Rattle.afr_laws.specs.Waiting.{IsCopying}
use Rattle.afr_laws.specs.Work.{shares_of, AsksShared, OnRun, AreCellsOf, changes_in, IsOfWork, KnowsWork}
use Rattle.afr_laws.proofs.Carry.{at_case}
use Rattle.afr_laws.proofs.Heard.{Heard}
use Rattle.afr_laws.proofs.Heard.Heard.{Took, Passed, OpenDone, OpenMissed}
use Rattle.afr_laws.proofs.Stages.{StageGoes, GrantsGo, hearing_grants}
use Rattle.afr_laws.proofs.Stages.StageGoes.{StaysIn, PassesOn, CopiesOn}
use Rattle.afr_laws.proofs.Stages.GrantsGo.{SameGrants, Granted, Released}
use Rattle.afr_laws.proofs.OwnChanges.Replies.{SameTask, heard_task}
use Rattle.afr_laws.proofs.Work.Same.{AreOfWork, work_goes}

-- ---- the cells that are copied

module _ (P : List Cell → Type 0) where
  pub passed_run : (stage : Stage) → OnRun P stage → OnRun P (passed stage)
  passed_run (Copying run) h = h
  passed_run other h = tt

  module _ (x : Txn) (k connection : ℕ) (h : OnRun P x.stage) where
    granting_run : (shared : Bool) (cells : List Cell) (answer : Answer) → OnRun P (granting x k connection shared cells answer).stage
    granting_run shared cells (Rows rows) = passed_run x.stage h
    granting_run shared cells other = h

    fetching_run : (stage : Stage) (cell : Cell) (found : Fetched) → x.stage ≡ stage → OnRun P (fetching x stage cell found).stage
    fetching_run (Copying run) cell found is = subst (OnRun P) is h
    fetching_run other cell found is = h

    having_run : (cell : Cell) (answer : Answer) → OnRun P (having x cell answer).stage
    having_run cell (Content found) = fetching_run x.stage cell found refl
    having_run cell other = h

    replacing_run : (stage : Stage) (cell : Cell) → x.stage ≡ stage → OnRun P (replacing x stage k cell).stage
    replacing_run (Copying run) cell is = subst (OnRun P) is h
    replacing_run other cell is = h

    taking_run : (ask : Ask) (answer : Answer) → OnRun P (taking x k connection ask answer).stage
    taking_run (Lock shared cells) answer = granting_run shared cells answer
    taking_run (Fetch cell) answer = having_run cell answer
    taking_run (Replace cell found) answer = replacing_run x.stage cell refl
    taking_run other answer = h

    pub hearing_run : (ask : Ask) (answer : Answer) → OnRun P (hearing x k connection ask answer).stage
    hearing_run ask answer = by_case (is_wanted ask answer) where
      by_case : (b : Bool) → OnRun P (if b then taking x k connection ask answer else missing x k).stage
      by_case true = taking_run ask answer
      by_case false = passed_run x.stage h

-- ---- the kind of the locks that are asked

pub passed_shared : (stage : Stage) (shares : Bool) → AsksShared stage shares → AsksShared (passed stage) shares
passed_shared (Locking cells shared next) shares h = h
passed_shared other shares h = tt

copying_shared : (stage : Stage) (shares : Bool) → IsCopying stage → AsksShared stage shares
copying_shared (Copying run) shares h = tt
copying_shared other shares h = absurd h

goes_shared : (old new : Stage) (shares : Bool) → StageGoes old new → AsksShared old shares → AsksShared new shares
goes_shared old new shares (StaysIn is) h = subst (λ s. AsksShared s shares) (sym is) h
goes_shared old new shares (PassesOn is) h = subst (λ s. AsksShared s shares) (sym is) (passed_shared old shares h)
goes_shared old new shares (CopiesOn c d) h = copying_shared new shares d

passed_changes : (stage : Stage) → changes_in (passed stage) ≡ changes_in stage
passed_changes (Locking cells shared next) = refl
passed_changes other = refl

copying_changes : (stage : Stage) → IsCopying stage → changes_in stage ≡ true
copying_changes (Copying run) h = refl
copying_changes other h = absurd h

pub goes_changes : (old new : Stage) → StageGoes old new → changes_in new ≡ true → changes_in old ≡ true
goes_changes old new (StaysIn is) h = sym (ap changes_in is) ∙ h
goes_changes old new (PassesOn is) h = sym (ap changes_in is ∙ passed_changes old) ∙ h
goes_changes old new (CopiesOn c d) h = copying_changes old c

-- ---- a reply

module _ (changes : ℕ → Change) (x : Txn) (n : KnowsWork changes x) (asked : AsksFor x.stage (cells_of_work changes x x.work)) (k connection : ℕ) (ask : Ask) (answer : Answer)
    (fits : awaits x k ≡ true → (shared : Bool) (cells : List Cell) → ask ≡ Lock shared cells → x.stage ≡ Locking cells shared k) where
  -- what was asked is of the work
  granted_now : awaits x k ≡ true → (shared : Bool) (cells : List Cell) (rows : Cell → Row) → ask ≡ Lock shared cells →
      IsOfWork (cells_of_work changes x x.work) (shares_of x.job x.work) (record { connection = connection; shared = shared; cells = cells; rows = rows })
  granted_now waits shared cells rows is = record {
    over = subst (λ s. AsksFor s (cells_of_work changes x x.work)) (fits waits shared cells is) asked;
    kind = subst (λ s. AsksShared s (shares_of x.job x.work)) (fits waits shared cells is) n.asks;
  }

  granted_after : awaits x k ≡ true → (y : Txn) → GrantsGo (at_rest x k) y k connection ask answer → AreOfWork (cells_of_work changes x x.work) (shares_of x.job x.work) y
  granted_after waits y (SameGrants same) j grant is = n.grants j grant (sym (ap (λ (f : ℕ → Option Grant). f j) same) ∙ is)
  granted_after waits y (Granted shared cells rows is_lock is_rows grants stage) j grant is =
      at_case (λ i o. o ≡ Some grant → IsOfWork (cells_of_work changes x x.work) (shares_of x.job x.work) grant) x.grants k (Some (record { connection = connection; shared = shared; cells = cells; rows = rows }))
      (λ e. let same : g0 ≡ grant = cc in subst (IsOfWork (cells_of_work changes x x.work) (shares_of x.job x.work)) same (granted_now waits shared cells rows is_lock)) j (λ ne e. n.grants j grant e)
      (sym (ap (λ (f : ℕ → Option Grant). f j) grants) ∙ is)
    where
      g0 : Grant
      g0 = record { connection = connection; shared = shared; cells = cells; rows = rows }
  granted_after waits y (Released is_unlock grants) j grant is =
      at_case (λ i o. o ≡ Some grant → IsOfWork (cells_of_work changes x x.work) (shares_of x.job x.work) grant) x.grants k None
      (λ e. absurd (let no : None ≡ Some grant = e in cc)) j (λ ne e. n.grants j grant e)
      (sym (ap (λ (f : ℕ → Option Grant). f j) grants) ∙ is)

  pub heard_work : (y : Txn) → Heard x y k connection ask answer → KnowsWork changes y
  heard_work y h = work_goes changes x y same.own.job same.work (goes_shared x.stage y.stage (shares_of x.job x.work) (heard_task x y k connection ask answer h).1 n.asks) (copied h) (λ changing. n.exclusive (goes_changes x.stage y.stage (heard_task x y k connection ask answer h).1 changing)) (granted h) where
    same : SameTask x y
    same = (heard_task x y k connection ask answer h).0

    copied : Heard x y k connection ask answer → OnRun (AreCellsOf (cells_of_work changes x x.work)) y.stage
    copied (Took plain waits s is) = subst (λ (z : Txn). OnRun (AreCellsOf (cells_of_work changes x x.work)) z.stage) (sym is) (hearing_run (AreCellsOf (cells_of_work changes x x.work)) (at_rest x k) k connection n.copies ask answer)
    copied (Passed plain passes is) = subst (λ (z : Txn). OnRun (AreCellsOf (cells_of_work changes x x.work)) z.stage) (sym is) n.copies
    copied (OpenDone opens is) = subst (λ (z : Txn). OnRun (AreCellsOf (cells_of_work changes x x.work)) z.stage) (sym is) n.copies
    copied (OpenMissed opens is) = subst (λ (z : Txn). OnRun (AreCellsOf (cells_of_work changes x x.work)) z.stage) (sym is) n.copies

    granted : Heard x y k connection ask answer → AreOfWork (cells_of_work changes x x.work) (shares_of x.job x.work) y
    granted (Took plain waits s is) j grant e = granted_after waits y (subst (λ (z : Txn). GrantsGo (at_rest x k) z k connection ask answer) (sym is) (hearing_grants (at_rest x k) k connection ask answer)) j grant e
    granted (Passed plain passes is) j grant e = n.grants j grant (sym (ap (λ (z : Txn). z.grants j) is) ∙ e)
    granted (OpenDone opens is) j grant e = n.grants j grant (sym (ap (λ (z : Txn). z.grants j) is) ∙ e)
    granted (OpenMissed opens is) j grant e = n.grants j grant (sym (ap (λ (z : Txn). z.grants j) is) ∙ e)
