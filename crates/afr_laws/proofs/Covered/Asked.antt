-- A request that is sent works on cells of its transaction's work, and alters them under exclusive locks alone.
use Rattle.std.proofs.Common.{◌≡◌, ◌∙◌, ℕ, ◌≤◌, true, false, refl, sym, ap, subst, inl, inr}
use Rattle.std.specs.Prelude.{List, [], ◌∷◌}
use Rattle.fop_types.specs.Jobs.{IsJob}
use Rattle.fop_types.specs.StoreOps.{needs}
use Rattle.fop_types.specs.declared.cells.Cell.{Cell}
use Rattle.afr_machine.specs.Replicas.{Size}
use Rattle.afr_machine.specs.Touching.{is_cell, has_cell}
use Rattle.afr_machine.specs.Requests.{Ask}
use Rattle.afr_machine.specs.Requests.Ask.{Lock, Unlock, Mark, Op, Post, Fetch, Replace, Clear, Settle, Index, Open, Release, OpenFirst}
use Rattle.afr_machine.specs.Transactions.{Txn, CopyRun, cells_of_job}
use Rattle.afr_machine.specs.Transactions.Work.{Own}
use Rattle.afr_machine.specs.Transactions.Stage.{Copying}
use Rattle.afr_machine.specs.States.{State}
use Rattle.afr_machine.specs.Births.{cells_of_work}
use Rattle.afr_machine.specs.Sending.{MayAsk}
use Rattle.afr_laws.specs.OwnChanges.{IsOwnStage, ChangesAreOwn}
use Rattle.afr_laws.specs.Fresh.{IsWorkOf, EachKnowsPhase}
use Rattle.afr_laws.specs.Work.{shares_of, OnRun, AreCellsOf, changes_in, EachKnowsWork}
use Rattle.afr_laws.specs.Covered.{cells_asked, alters}
use Rattle.afr_laws.proofs.Bools.{or_right}
use Rattle.afr_laws.proofs.Sharing.{cells_are}
use Rattle.afr_laws.proofs.Copies.Asks.{birth_needs}
use Rattle.afr_laws.proofs.Fresh.Known.{own_cells}

-- the request works on cells of the work, and under exclusive locks where it alters them
pub record IsOnWork (m : State) (t : ℕ) (ask : Ask) : Type 0 where
  pub over : (cell : Cell) → has_cell (cells_asked ask) cell ≡ true → has_cell (cells_of_work m.changes (m.txns t) (m.txns t).work) cell ≡ true
  pub alone : alters ask ≡ true → shares_of (m.txns t).job (m.txns t).work ≡ false

-- a single cell is itself
the_cell : (cells : List Cell) (one cell : Cell) → has_cell (one ∷ []) cell ≡ true → has_cell cells one ≡ true → has_cell cells cell ≡ true
the_cell cells one cell is has = subst (λ c. has_cell cells c ≡ true) (sym (cells_are cell one (sym (or_right (is_cell cell one)) ∙ is))) has

module _ (size : Size) (m : State) (t k : ℕ) (works : EachKnowsWork m) (phases : EachKnowsPhase m) (own : ChangesAreOwn m) where
  abbrev x : Txn
  x = m.txns t

  on_list : (cells : List Cell) (ask : Ask) → cells_asked ask ≡ cells → cells_of_work m.changes x x.work ≡ cells → changes_in x.stage ≡ true → IsOnWork m t ask
  on_list cells ask asked over changing = record {
    over = λ cell has. ap (λ cs. has_cell cs cell) (over ∙ sym asked) ∙ has;
    alone = λ alter. (works t).exclusive changing;
  }

  -- of the transaction's own change
  of_own : (u : ℕ) → (x.own ≡ u) × (1 ≤ u) → x.work ≡ Own → cells_of_work m.changes x x.work ≡ (m.changes u).cells
  of_own u s work = own_cells size m t k phases own u s.0 s.1 work

  of_copy : (run : CopyRun) → x.stage ≡ Copying run → AreCellsOf (cells_of_work m.changes x x.work) run.cells
  of_copy run turn = subst (OnRun (AreCellsOf (cells_of_work m.changes x x.work))) turn (works t).copies

  pub sent_on : (ask : Ask) → MayAsk size m t k ask → IsOnWork m t ask
  sent_on (Mark u cells) h =
      let s = subst (λ s. IsOwnStage m.changes x.own s) h.turn (own.own t).stage in
      on_list cells (Mark u cells) refl (of_own u (s.0, s.1.0) (subst (λ s. IsWorkOf s x.work) h.turn (phases t).work) ∙ sym h.cells_are) (ap changes_in h.turn)
  sent_on (Op u op) (inl h) =
      let s = subst (λ s. IsOwnStage m.changes x.own s) h.turn (own.own t).stage in
      on_list (needs op) (Op u op) refl (of_own u (s.0, s.1.0) (subst (λ s. IsWorkOf s x.work) h.turn (phases t).work) ∙ own.fit.needs_are u ∙ ap needs (sym h.op_is)) (ap changes_in h.turn)
  sent_on (Op u op) (inr h) = record {
    over = λ cell has. absurd (let no : false ≡ true = sym (ap (λ cs. has_cell cs cell) (birth_needs op (subst IsJob h.job_is (own.own t).job).2)) ∙ has in cc);
    alone = λ alter. (works t).exclusive (ap changes_in h.turn);
  }
  sent_on (Post u cells accused) h =
      let s = subst (λ s. IsOwnStage m.changes x.own s) h.turn (own.own t).stage in
      on_list cells (Post u cells accused) refl (of_own u (s.0, s.1.0) (subst (λ s. IsWorkOf s x.work) h.turn (phases t).work) ∙ sym h.cells_are) (ap changes_in h.turn)
  sent_on (Fetch cell) (inl h) = record {
    over = λ other has. ap (λ cs. has_cell cs other) (ap (cells_of_work m.changes x) h.work_is ∙ ap cells_of_job h.job_is) ∙ the_cell h.cells cell other has h.of_job;
    alone = λ alter. absurd cc;
  }
  sent_on (Fetch cell) (inr h) = record {
    over = λ other has. the_cell (cells_of_work m.changes x x.work) cell other has (of_copy h.run h.turn cell h.of_run);
    alone = λ alter. absurd cc;
  }
  sent_on (Replace cell found) h = record {
    over = λ other has. the_cell (cells_of_work m.changes x x.work) cell other has (of_copy h.run h.turn cell h.of_run);
    alone = λ alter. (works t).exclusive (ap changes_in h.turn);
  }
  sent_on (Clear cells who) h = record {
    over = λ cell has. of_copy h.run h.turn cell (sym (ap (λ cs. has_cell cs cell) h.cells_are) ∙ has);
    alone = λ alter. (works t).exclusive (ap changes_in h.turn);
  }
  sent_on (Settle u cells accused) h =
      on_list cells (Settle u cells accused) refl (ap (cells_of_work m.changes x) (subst (λ s. IsWorkOf s x.work) h.turn (phases t).work) ∙ sym h.cells_are) (ap changes_in h.turn)
  sent_on (Lock shared cells) h = record { over = λ cell has. absurd cc; alone = λ alter. absurd cc }
  sent_on Unlock h = record { over = λ cell has. absurd cc; alone = λ alter. absurd cc }
  sent_on Index h = record { over = λ cell has. absurd cc; alone = λ alter. absurd cc }
  sent_on Open h = record { over = λ cell has. absurd cc; alone = λ alter. absurd cc }
  sent_on Release h = absurd h
  sent_on OpenFirst h = absurd h
