-- What is known of a transaction's work stays while the transaction goes on, and while changes keep their cells.
use Rattle.std.proofs.Common.{◌≡◌, ◌∙◌, ℕ, Bool, true, false, refl, sym, ap, subst, Some}
use Rattle.std.specs.Prelude.{List}
use Rattle.fop_types.specs.declared.cells.Cell.{Cell}
use Rattle.afr_machine.specs.Changes.{Change}
use Rattle.afr_machine.specs.Transactions.{Work, Grant, Txn, cells_of_job}
use Rattle.afr_machine.specs.Transactions.Work.{Own, Settles}
use Rattle.afr_machine.specs.Births.{cells_of_work}
use Rattle.afr_laws.specs.Drawn.{change_of}
use Rattle.afr_laws.specs.Work.{shares_of, AsksShared, OnRun, AreCellsOf, changes_in, IsOfWork, KnowsWork}
use Rattle.afr_laws.proofs.Fresh.Phased.{work_cells}

-- the grants of a transaction are over these cells, and of this kind
abbrev pub AreOfWork : List Cell → Bool → Txn → Type 0
AreOfWork cells shares y = (k : ℕ) (grant : Grant) → y.grants k ≡ Some grant → IsOfWork cells shares grant

module _ (changes : ℕ → Change) (x y : Txn) (own : y.job ≡ x.job) (work : y.work ≡ x.work) where
  kind : shares_of y.job y.work ≡ shares_of x.job x.work
  kind = ap (λ j. shares_of j y.work) own ∙ ap (shares_of x.job) work

  over : cells_of_work changes y y.work ≡ cells_of_work changes x x.work
  over = ap (cells_of_work changes y) work ∙ of_job x.work where
    of_job : (w : Work) → cells_of_work changes y w ≡ cells_of_work changes x w
    of_job Own = ap cells_of_job own
    of_job (Settles u) = refl

  pub work_goes : AsksShared y.stage (shares_of x.job x.work) → OnRun (AreCellsOf (cells_of_work changes x x.work)) y.stage → (changes_in y.stage ≡ true → shares_of x.job x.work ≡ false) → AreOfWork (cells_of_work changes x x.work) (shares_of x.job x.work) y → KnowsWork changes y
  work_goes asks copies exclusive grants = record {
    asks = subst (AsksShared y.stage) (sym kind) asks;
    copies = subst (λ cs. OnRun (AreCellsOf cs) y.stage) (sym over) copies;
    exclusive = λ changing. kind ∙ exclusive changing;
    grants = subst (λ cs. AreOfWork cs (shares_of y.job y.work) y) (sym over) (subst (λ b. AreOfWork (cells_of_work changes x x.work) b y) (sym kind) grants);
  }

pub work_carry : (changes table : ℕ → Change) (x : Txn) → ((u : ℕ) → change_of x.work ≡ u → (table u).cells ≡ (changes u).cells) → KnowsWork changes x → KnowsWork table x
work_carry changes table x same n =
    let cells : cells_of_work table x x.work ≡ cells_of_work changes x x.work = work_cells changes table x x.work same in
    record {
      asks = n.asks;
      copies = subst (λ cs. OnRun (AreCellsOf cs) x.stage) (sym cells) n.copies;
      exclusive = n.exclusive;
      grants = subst (λ cs. AreOfWork cs (shares_of x.job x.work) x) (sym cells) n.grants;
    }
