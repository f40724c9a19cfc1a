-- What each request makes of accusations.
use Rattle.std.proofs.Common.{◌≡◌, ◌∙◌, ℕ, zero, suc, ◌+◌, Bool, true, false, refl, sym, ap, arith}
use Rattle.std.specs.Prelude.{◌==◌, not, ◌&&◌, ◌||◌, if◌then◌else◌, List, Some}
use Rattle.std.proofs.lemmas.Bool.{eqb-true, ne_eqb}
use Rattle.fop_types.specs.StoreOps.{fits}
use Rattle.fop_types.specs.declared.cells.Cell.{Cell}
use Rattle.fop_types.specs.declared.store_ops.StoreOp.{StoreOp}
use Rattle.afr_changelog.specs.Counters.{full_count, raised}
use Rattle.afr_machine.specs.Replicas.{Replicas}
use Rattle.afr_machine.specs.Touching.{is_cell, has_cell}
use Rattle.afr_machine.specs.Copies.{Kept, Store, Fetched, contents_of, on_cells, accusing, mark_of, post_of, settle_of, clear_of, replaced, op_of, after_op}
use Rattle.afr_machine.specs.Requests.Ask.{Lock, Unlock, Mark, Op, Post, Fetch, Replace, Clear, Settle, Index, Open, Release, OpenFirst}
use Rattle.afr_laws.specs.Rows.{accuses_at, AccusersFollow, RowsShowAccusers}
use Rattle.afr_laws.proofs.Bools.{and_right}

raised_accuses : (p : ℕ) → not (raised p == 0) ≡ true
raised_accuses p = by_case (p == full_count) refl where
  by_case : (b : Bool) → (p == full_count) ≡ b → not ((if b then p else p + 1) == 0) ≡ true
  by_case true e = ap not (ne_eqb p 0 (λ z. absurd (omega (arith, eqb-true p full_count e))))
  by_case false e = ap not (ne_eqb (p + 1) 0 (λ z. absurd (omega arith)))

-- one counter: raised where it is accused
accusing_accuses : (accused : Replicas) (pending : ℕ → ℕ) (i : ℕ) → not (accusing accused pending i == 0) ≡ (accused i || not (pending i == 0))
accusing_accuses accused pending i = by_case (accused i) where
  by_case : (b : Bool) → not ((if b then raised (pending i) else pending i) == 0) ≡ (b || not (pending i == 0))
  by_case true = raised_accuses (pending i)
  by_case false = refl

kept_same : (b : Bool) → b ≡ (false || (b && not false))
kept_same true = refl
kept_same false = refl

-- where a change of one cell is the same for the counter, all stays
module _ (store : Store) (cell : Cell) (i : ℕ) where
  same_pending : (store2 : Store) → (store2 cell).pending i ≡ (store cell).pending i → accuses_at store2 cell i ≡ (false || (accuses_at store cell i && not false))
  same_pending store2 e = ap (λ n. not (n == 0)) e ∙ kept_same (accuses_at store cell i)

  marked_same : (cells : List Cell) → (on_cells cells mark_of store cell).pending i ≡ (store cell).pending i
  marked_same cells = by_case (has_cell cells cell) where
    by_case : (b : Bool) → (if b then mark_of (store cell) else store cell).pending i ≡ (store cell).pending i
    by_case true = refl
    by_case false = refl

  op_same : (u : ℕ) (op : StoreOp) → (after_op u op store cell).pending i ≡ (store cell).pending i
  op_same u op = by_case (fits (contents_of store) op) where
    by_case : (b : Bool) → (if b then op_of (contents_of store) u op cell (store cell) else store cell).pending i ≡ (store cell).pending i
    by_case true = refl
    by_case false = refl

  replaced_same : (at : Cell) (found : Fetched) → (replaced at found store cell).pending i ≡ (store cell).pending i
  replaced_same at found = by_case (is_cell cell at) where
    by_case : (b : Bool) → (if b then record (store cell) { copy = Some found.copy; last = found.last } else store cell).pending i ≡ (store cell).pending i
    by_case true = refl
    by_case false = refl

  adding : (cells : List Cell) (accused : Replicas) (change : Kept → Kept) → ((k : Kept) → (change k).pending ≡ accusing accused k.pending) →
      accuses_at (on_cells cells change store) cell i ≡ ((has_cell cells cell && accused i) || (accuses_at store cell i && not false))
  adding cells accused change is = by_case (has_cell cells cell) where
    by_case : (b : Bool) → not ((if b then change (store cell) else store cell).pending i == 0) ≡ ((b && accused i) || (accuses_at store cell i && not false))
    by_case true = ap (λ (p : ℕ → ℕ). not (p i == 0)) (is (store cell)) ∙ accusing_accuses accused (store cell).pending i ∙ ap (λ b. accused i || b) (sym (and_right (accuses_at store cell i)))
    by_case false = sym (and_right (accuses_at store cell i))

  clearing : (cells : List Cell) (who : Replicas) → accuses_at (on_cells cells (clear_of who) store) cell i ≡ (false || (accuses_at store cell i && not (has_cell cells cell && who i)))
  clearing cells who = by_case (has_cell cells cell) (who i) refl where
    zeroed : (b w : Bool) → not ((if w then 0 else (store cell).pending i) == 0) ≡ (accuses_at store cell i && not w)
    zeroed b true = sym (and_none (accuses_at store cell i))
      where
        and_none : (x : Bool) → (x && false) ≡ false
        and_none true = refl
        and_none false = refl
    zeroed b false = sym (and_right (accuses_at store cell i))

    by_case : (b w : Bool) → who i ≡ w → not ((if b then clear_of who (store cell) else store cell).pending i == 0) ≡ (accuses_at store cell i && not (b && who i))
    by_case true w e = zeroed true (who i)
    by_case false w e = sym (and_right (accuses_at store cell i))

pub accusers_follow : AccusersFollow
accusers_follow (Lock shared cells) store cell i = kept_same (accuses_at store cell i)
accusers_follow Unlock store cell i = kept_same (accuses_at store cell i)
accusers_follow (Mark change cells) store cell i = same_pending store cell i (on_cells cells mark_of store) (marked_same store cell i cells)
accusers_follow (Op change op) store cell i = same_pending store cell i (after_op change op store) (op_same store cell i change op)
accusers_follow (Post change cells accused) store cell i = adding store cell i cells accused (post_of accused) (λ k. refl)
accusers_follow (Fetch other) store cell i = kept_same (accuses_at store cell i)
accusers_follow (Replace other found) store cell i = same_pending store cell i (replaced other found store) (replaced_same store cell i other found)
accusers_follow (Clear cells who) store cell i = clearing store cell i cells who
accusers_follow (Settle change cells accused) store cell i = adding store cell i cells accused (settle_of accused) (λ k. refl)
accusers_follow Index store cell i = kept_same (accuses_at store cell i)
accusers_follow Open store cell i = kept_same (accuses_at store cell i)
accusers_follow Release store cell i = kept_same (accuses_at store cell i)
accusers_follow OpenFirst store cell i = kept_same (accuses_at store cell i)

pub rows_show_accusers : RowsShowAccusers
rows_show_accusers store cell zero l = refl
rows_show_accusers store cell (suc zero) l = refl
rows_show_accusers store cell (suc (suc zero)) l = refl
rows_show_accusers store cell (suc (suc (suc zero))) l = refl
rows_show_accusers store cell (suc (suc (suc (suc zero)))) l = refl
rows_show_accusers store cell (suc (suc (suc (suc (suc i))))) l = absurd (omega arith)
