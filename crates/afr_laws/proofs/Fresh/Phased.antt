-- What is known of a transaction's lock phase stays while phases and changes go on, and while the transaction does.
use Rattle.std.proofs.Common.{◌≡◌, ◌∙◌, ℕ, ◌≤◌, Bool, true, refl, sym, ap, subst, arith}
use Rattle.std.specs.Prelude.{List}
use Rattle.fop_types.specs.declared.cells.Cell.{Cell}
use Rattle.afr_machine.specs.Touching.{has_cell}
use Rattle.afr_machine.specs.Changes.{Change}
use Rattle.afr_machine.specs.Phases.{Phase}
use Rattle.afr_machine.specs.Transactions.{Work, Stage, Txn, cells_of_job}
use Rattle.afr_machine.specs.Transactions.Work.{Own, Settles}
use Rattle.afr_machine.specs.Transactions.Stage.{Locking, Marking, Applying, Posting, Settling, Copying}
use Rattle.afr_machine.specs.Births.{cells_of_work}
use Rattle.afr_machine.specs.Answering.{passed}
use Rattle.afr_laws.specs.Drawn.{change_of}
use Rattle.afr_laws.specs.Waiting.{IsCopying}
use Rattle.afr_laws.specs.Fresh.{is_behind, IsWorkOf, AsksFor, HasWritten, KnowsPhase, IsWritten}
use Rattle.afr_laws.proofs.Stages.{StageGoes}
use Rattle.afr_laws.proofs.Stages.StageGoes.{StaysIn, PassesOn, CopiesOn}

abbrev pub ClearedGoes : Phase → Phase → Type 0
ClearedGoes old new = (i : ℕ) (cell : Cell) (k : ℕ) → old.cleared i cell k ≡ true → new.cleared i cell k ≡ true

-- phases that have ended keep their transaction, their cells, whom they reached and what they saw; who is accused, which clears were
-- confirmed and what was written stays so
pub record PhasesGo (ended : ℕ) (old new : ℕ → Phase) : Type 0 where
  pub by : (p : ℕ) → p ≤ ended → (new p).by ≡ (old p).by
  pub cells : (p : ℕ) → p ≤ ended → (new p).cells ≡ (old p).cells
  pub reached : (p : ℕ) → p ≤ ended → (new p).reached ≡ (old p).reached
  pub rows : (p : ℕ) → p ≤ ended → (new p).rows ≡ (old p).rows
  pub accused : (p : ℕ) → p ≤ ended → (i : ℕ) → (old p).accused i ≡ true → (new p).accused i ≡ true
  pub cleared : (p : ℕ) → p ≤ ended → ClearedGoes (old p) (new p)
  pub wrote : (p : ℕ) → p ≤ ended → (old p).wrote ≡ true → (new p).wrote ≡ true

pub same_phases : (ended : ℕ) (phases : ℕ → Phase) → PhasesGo ended phases phases
same_phases ended phases = record { by = λ p low. refl; cells = λ p low. refl; reached = λ p low. refl; rows = λ p low. refl; accused = λ p low i h. h; cleared = λ p low i cell k h. h; wrote = λ p low h. h }

pub written_goes : (ended now : ℕ) (old new : ℕ → Phase) → ended ≤ now → PhasesGo ended old new → (cell : Cell) → IsWritten old ended cell → IsWritten new now cell
written_goes ended now old new le g cell w = record { phase = w.phase; low = omega (arith, le, w.low); wrote = g.wrote w.phase w.low w.wrote; covers = ap (λ cs. has_cell cs cell) (g.cells w.phase w.low) ∙ w.covers }

pub work_cells : (old new : ℕ → Change) (x : Txn) (work : Work) → ((u : ℕ) → change_of work ≡ u → (new u).cells ≡ (old u).cells) → cells_of_work new x work ≡ cells_of_work old x work
work_cells old new x Own same = refl
work_cells old new x (Settles u) same = same u refl

written_carry : (x : Txn) (stage : Stage) (old new : Bool) → (old ≡ true → new ≡ true) → HasWritten x stage old → HasWritten x stage new
written_carry x (Marking u) old new more h = (λ k w. more (h.0 k w), λ k c. more (h.1 k c))
written_carry x other old new more h = tt

-- ---- phases and changes go on

module _ (changes table : ℕ → Change) (phases new : ℕ → Phase) (ended now : ℕ) (le : ended ≤ now) (g : PhasesGo ended phases new) where
  pub phase_carry : (x : Txn) → ((u : ℕ) → change_of x.work ≡ u → (table u).cells ≡ (changes u).cells) → KnowsPhase changes phases ended x → KnowsPhase table new now x
  phase_carry x same k =
      let cells : cells_of_work table x x.work ≡ cells_of_work changes x x.work = work_cells changes table x x.work same in
      record {
        low = omega (arith, le, k.low);
        work = k.work;
        asks = subst (AsksFor x.stage) (sym cells) k.asks;
        cells = λ h. g.cells x.phase k.low ∙ k.cells h ∙ sym cells;
        wrote = written_carry x x.stage (phases x.phase).wrote (new x.phase).wrote (g.wrote x.phase k.low) k.wrote;
      }

-- ---- the transaction goes on

-- its job, its work and its lock phase stay
pub record SamePhase (x y : Txn) : Type 0 where
  pub job : y.job ≡ x.job
  pub work : y.work ≡ x.work
  pub phase : y.phase ≡ x.phase

pub same_cells : (changes : ℕ → Change) (x y : Txn) → SamePhase x y → cells_of_work changes y y.work ≡ cells_of_work changes x x.work
same_cells changes x y s = ap (cells_of_work changes y) s.work ∙ of_job x.work where
  of_job : (work : Work) → cells_of_work changes y work ≡ cells_of_work changes x work
  of_job Own = ap cells_of_job s.job
  of_job (Settles u) = refl

module _ (changes : ℕ → Change) (phases : ℕ → Phase) (ended : ℕ) where
  -- in another stage behind the lock phase, or with no locks
  pub restaged : (x y : Txn) → SamePhase x y → IsWorkOf y.stage y.work → AsksFor y.stage (cells_of_work changes y y.work) → (is_behind y.stage ≡ true → is_behind x.stage ≡ true) → HasWritten y y.stage (phases y.phase).wrote → KnowsPhase changes phases ended x → KnowsPhase changes phases ended y
  restaged x y s work asks behind wrote k = record {
    low = omega (arith, s.phase, k.low);
    work = work;
    asks = asks;
    cells = λ h. ap (λ p. (phases p).cells) s.phase ∙ k.cells (behind h) ∙ sym (same_cells changes x y s);
    wrote = wrote;
  }

passed_work : (stage : Stage) (work : Work) → IsWorkOf stage work → IsWorkOf (passed stage) work
passed_work (Marking u) work h = h
passed_work (Applying u) work h = h
passed_work (Posting u) work h = h
passed_work (Settling u group adopts) work h = h
passed_work other work h = tt

copying_work : (stage : Stage) (work : Work) → IsCopying stage → IsWorkOf stage work
copying_work (Copying run) work h = tt
copying_work other work h = absurd h

pub goes_work : (old new : Stage) (work : Work) → StageGoes old new → IsWorkOf old work → IsWorkOf new work
goes_work old new work (StaysIn is) h = subst (λ s. IsWorkOf s work) (sym is) h
goes_work old new work (PassesOn is) h = subst (λ s. IsWorkOf s work) (sym is) (passed_work old work h)
goes_work old new work (CopiesOn c d) h = copying_work new work d

passed_asks : (stage : Stage) (cells : List Cell) → AsksFor stage cells → AsksFor (passed stage) cells
passed_asks (Locking asked shared next) cells h = h
passed_asks other cells h = tt

copying_asks : (stage : Stage) (cells : List Cell) → IsCopying stage → AsksFor stage cells
copying_asks (Copying run) cells h = tt
copying_asks other cells h = absurd h

pub goes_asks : (old new : Stage) (cells : List Cell) → StageGoes old new → AsksFor old cells → AsksFor new cells
goes_asks old new cells (StaysIn is) h = subst (λ s. AsksFor s cells) (sym is) h
goes_asks old new cells (PassesOn is) h = subst (λ s. AsksFor s cells) (sym is) (passed_asks old cells h)
goes_asks old new cells (CopiesOn c d) h = copying_asks new cells d

pub passed_behind : (stage : Stage) → is_behind (passed stage) ≡ is_behind stage
passed_behind (Locking cells shared next) = refl
passed_behind other = refl

copying_behind : (stage : Stage) → IsCopying stage → is_behind stage ≡ true
copying_behind (Copying run) h = refl
copying_behind other h = absurd h

pub goes_behind : (old new : Stage) → StageGoes old new → is_behind new ≡ true → is_behind old ≡ true
goes_behind old new (StaysIn is) h = sym (ap is_behind is) ∙ h
goes_behind old new (PassesOn is) h = sym (ap is_behind is ∙ passed_behind old) ∙ h
goes_behind old new (CopiesOn c d) h = copying_behind old c

-- what was written, for a transaction that is as it was but for whom it waits for and who confirmed
pub written_goes_on : (x y : Txn) (wrote : Bool) (old new : Stage) → StageGoes old new → ((k : ℕ) → y.waits k ≡ true → x.waits k ≡ true) → ((u k : ℕ) → old ≡ Marking u → y.confirmed k ≡ true → wrote ≡ true) → HasWritten x old wrote → HasWritten y new wrote
written_goes_on x y wrote old new goes waits confirmed h = by_stage new old goes h confirmed where
  copying : (stage : Stage) → IsCopying stage → HasWritten y stage wrote
  copying (Copying run) c = tt
  copying other c = absurd c

  same : (stage : Stage) → HasWritten x stage wrote → ((u k : ℕ) → stage ≡ Marking u → y.confirmed k ≡ true → wrote ≡ true) → HasWritten y stage wrote
  same (Marking u) h confirmed = (λ k w. h.0 k (waits k w), λ k c. confirmed u k refl c)
  same other h confirmed = tt

  passing : (stage : Stage) → HasWritten x stage wrote → ((u k : ℕ) → stage ≡ Marking u → y.confirmed k ≡ true → wrote ≡ true) → HasWritten y (passed stage) wrote
  passing (Marking u) h confirmed = (λ k w. h.0 k (waits k w), λ k c. confirmed u k refl c)
  passing other h confirmed = tt

  by_stage : (new old : Stage) → StageGoes old new → HasWritten x old wrote → ((u k : ℕ) → old ≡ Marking u → y.confirmed k ≡ true → wrote ≡ true) → HasWritten y new wrote
  by_stage new old (StaysIn is) h confirmed = subst (λ s. HasWritten y s wrote) (sym is) (same old h confirmed)
  by_stage new old (PassesOn is) h confirmed = subst (λ s. HasWritten y s wrote) (sym is) (passing old h confirmed)
  by_stage new old (CopiesOn c d) h confirmed = copying new d
