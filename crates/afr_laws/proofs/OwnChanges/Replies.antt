-- A reply leaves a transaction's own change as it is, and of every change all but who applied it.
use Rattle.std.proofs.Common.{◌≡◌, ◌∙◌, ℕ, Bool, true, false, refl, sym, ap, subst}
use Rattle.std.specs.Prelude.{if◌then◌else◌, List}
use Rattle.fop_types.specs.declared.cells.Cell.{Cell}
use Rattle.afr_machine.specs.Replicas.{with_at}
use Rattle.afr_machine.specs.Copies.{Fetched}
use Rattle.afr_machine.specs.Requests.{Sender, Ask, Answer}
use Rattle.afr_machine.specs.Requests.Ask.{Lock, Unlock, Mark, Op, Post, Fetch, Replace, Clear, Settle, Index, Open, Release, OpenFirst}
use Rattle.afr_machine.specs.Requests.Answer.{Rows, Content}
use Rattle.afr_machine.specs.Changes.{Change}
use Rattle.afr_machine.specs.Transactions.{Stage, Txn}
use Rattle.afr_machine.specs.Transactions.Stage.{Applying, Copying}
use Rattle.afr_machine.specs.States.{State, with_txn}
use Rattle.afr_machine.specs.Answering.{is_wanted, missing, granting, having, fetching, replacing, taking, hearing, applied_by, cleared_for, noting, awaits, landed, at_rest, answered, replied}
use Rattle.afr_laws.specs.OwnChanges.{was_unsettled, KnowsOwn}
use Rattle.afr_laws.proofs.Carry.{at_case}
use Rattle.afr_laws.proofs.Heard.{Heard}
use Rattle.afr_laws.proofs.Heard.Heard.{Took, Passed, OpenDone, OpenMissed}
use Rattle.afr_laws.proofs.Stages.{StageGoes, hearing_stage}
use Rattle.afr_laws.proofs.OwnChanges.Carries.{ChangeGoes, SameOwn, same_own, own_goes}

-- ---- the table of changes

pub record SameChange (old new : Change) : Type 0 where
  pub by : new.by ≡ old.by
  pub cells : new.cells ≡ old.cells
  pub op : new.op ≡ old.op
  pub verdict : new.verdict ≡ old.verdict

abbrev pub SameTable : (ℕ → Change) → (ℕ → Change) → Type 0
SameTable old new = (u : ℕ) → SameChange (old u) (new u)

pub same_change : (c : Change) → SameChange c c
same_change c = record { by = refl; cells = refl; op = refl; verdict = refl }

pub same_change_goes : (old new : Change) → SameChange old new → ChangeGoes old new
same_change_goes old new s = record { by = s.by; cells = s.cells; drawn = λ h. s.verdict ∙ h; sent = λ h. ap was_unsettled s.verdict ∙ h }

applied_table : (m : State) (stage : Stage) (k : ℕ) → SameTable m.changes (applied_by m stage k).changes
applied_table m (Applying v) k u = at_case (λ n (c : Change). SameChange (m.changes n) c) m.changes v (record (m.changes v) { done = with_at (m.changes v).done k true }) (record { by = refl; cells = refl; op = refl; verdict = refl }) u (λ ne. same_change (m.changes u))
applied_table m other k u = same_change (m.changes u)

cleared_table : (m : State) (x : Txn) (stage : Stage) (k : ℕ) → SameTable m.changes (cleared_for m x stage k).changes
cleared_table m x (Copying run) k u = same_change (m.changes u)
cleared_table m x other k u = same_change (m.changes u)

noting_table : (m : State) (x : Txn) (k : ℕ) (ask : Ask) → SameTable m.changes (noting m x k ask).changes
noting_table m x k (Op change op) = applied_table m x.stage k
noting_table m x k (Clear cells who) = cleared_table m x x.stage k
noting_table m x k other = λ u. same_change (m.changes u)

answered_table : (m : State) (k : ℕ) (by : Sender) (ask : Ask) (answer : Answer) → SameTable m.changes (answered m k by ask answer).changes
answered_table m k by ask answer u = by_case (awaits (m.txns by.txn) k) (is_wanted ask answer) where
  x : Txn
  x = m.txns by.txn

  wanted : (c : Bool) → SameChange (m.changes u) ((if c then noting m (m.txns by.txn) k ask else m).changes u)
  wanted true = noting_table m (m.txns by.txn) k ask u
  wanted false = same_change (m.changes u)

  by_case : (b c : Bool) → SameChange (m.changes u) ((if b then with_txn (if c then noting m (m.txns by.txn) k ask else m) by.txn (hearing (at_rest (m.txns by.txn) k) k by.connection ask answer) else with_txn m by.txn (landed (m.txns by.txn) k)).changes u)
  by_case true c = wanted c
  by_case false c = same_change (m.changes u)

pub replied_table : (m : State) (k : ℕ) (by : Sender) (ask : Ask) (answer : Answer) → SameTable m.changes (replied m k by ask answer).changes
replied_table m k by OpenFirst answer = λ u. same_change (m.changes u)
replied_table m k by (Lock shared cells) answer = answered_table m k by (Lock shared cells) answer
replied_table m k by Unlock answer = answered_table m k by Unlock answer
replied_table m k by (Mark change cells) answer = answered_table m k by (Mark change cells) answer
replied_table m k by (Op change op) answer = answered_table m k by (Op change op) answer
replied_table m k by (Post change cells accused) answer = answered_table m k by (Post change cells accused) answer
replied_table m k by (Fetch cell) answer = answered_table m k by (Fetch cell) answer
replied_table m k by (Replace cell found) answer = answered_table m k by (Replace cell found) answer
replied_table m k by (Clear cells who) answer = answered_table m k by (Clear cells who) answer
replied_table m k by (Settle change cells accused) answer = answered_table m k by (Settle change cells accused) answer
replied_table m k by Index answer = answered_table m k by Index answer
replied_table m k by Open answer = answered_table m k by Open answer
replied_table m k by Release answer = answered_table m k by Release answer

-- ---- the transaction

-- its job, its number, its lock phase and what that is for stay
pub record SameTask (x y : Txn) : Type 0 where
  pub own : SameOwn x y
  pub work : y.work ≡ x.work
  pub phase : y.phase ≡ x.phase

same_task : (x : Txn) → SameTask x x
same_task x = record { own = same_own x; work = refl; phase = refl }

module _ (x : Txn) (k connection : ℕ) where
  granting_task : (shared : Bool) (cells : List Cell) (answer : Answer) → SameTask x (granting x k connection shared cells answer)
  granting_task shared cells (Rows rows) = record { own = record { job = refl; own = refl; settled = refl }; work = refl; phase = refl }
  granting_task shared cells other = same_task x

  fetching_task : (stage : Stage) (cell : Cell) (found : Fetched) → SameTask x (fetching x stage cell found)
  fetching_task (Copying run) cell found = record { own = record { job = refl; own = refl; settled = refl }; work = refl; phase = refl }
  fetching_task other cell found = record { own = record { job = refl; own = refl; settled = refl }; work = refl; phase = refl }

  having_task : (cell : Cell) (answer : Answer) → SameTask x (having x cell answer)
  having_task cell (Content found) = fetching_task x.stage cell found
  having_task cell other = same_task x

  replacing_task : (stage : Stage) (cell : Cell) → SameTask x (replacing x stage k cell)
  replacing_task (Copying run) cell = record { own = record { job = refl; own = refl; settled = refl }; work = refl; phase = refl }
  replacing_task other cell = same_task x

  taking_task : (ask : Ask) (answer : Answer) → SameTask x (taking x k connection ask answer)
  taking_task (Lock shared cells) answer = granting_task shared cells answer
  taking_task (Fetch cell) answer = having_task cell answer
  taking_task (Replace cell found) answer = replacing_task x.stage cell
  taking_task other answer = record { own = record { job = refl; own = refl; settled = refl }; work = refl; phase = refl }

  pub hearing_task : (ask : Ask) (answer : Answer) → SameTask x (hearing x k connection ask answer)
  hearing_task ask answer = by_case (is_wanted ask answer) where
    by_case : (b : Bool) → SameTask x (if b then taking x k connection ask answer else missing x k)
    by_case true = taking_task ask answer
    by_case false = record { own = record { job = refl; own = refl; settled = refl }; work = refl; phase = refl }

module _ (x y : Txn) (k connection : ℕ) (ask : Ask) (answer : Answer) where
  pub heard_task : Heard x y k connection ask answer → SameTask x y × StageGoes x.stage y.stage
  heard_task (Took plain waits same is) = (
    subst (SameTask x) (sym is) (let s = hearing_task (at_rest x k) k connection ask answer in record { own = record { job = s.own.job; own = s.own.own; settled = s.own.settled }; work = s.work; phase = s.phase }),
    subst (λ (z : Txn). StageGoes x.stage z.stage) (sym is) (hearing_stage (at_rest x k) k connection ask answer),
  )
  heard_task (Passed plain passes is) = (subst (SameTask x) (sym is) (record { own = record { job = refl; own = refl; settled = refl }; work = refl; phase = refl }), StageGoes.StaysIn (ap (λ (z : Txn). z.stage) is))
  heard_task (OpenDone opens is) = (subst (SameTask x) (sym is) (record { own = record { job = refl; own = refl; settled = refl }; work = refl; phase = refl }), StageGoes.StaysIn (ap (λ (z : Txn). z.stage) is))
  heard_task (OpenMissed opens is) = (subst (SameTask x) (sym is) (record { own = record { job = refl; own = refl; settled = refl }; work = refl; phase = refl }), StageGoes.StaysIn (ap (λ (z : Txn). z.stage) is))

pub heard_own : (changes : ℕ → Change) (drawn t : ℕ) (x y : Txn) (k connection : ℕ) (ask : Ask) (answer : Answer) → Heard x y k connection ask answer → KnowsOwn changes drawn t x → KnowsOwn changes drawn t y
heard_own changes drawn t x y k connection ask answer h n = let g = heard_task x y k connection ask answer h in own_goes changes drawn t x y g.0.own g.0.work g.1 n
