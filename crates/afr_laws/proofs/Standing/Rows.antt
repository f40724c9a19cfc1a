-- What a move of a brick leaves of rows that were shown.
use Rattle.std.proofs.Common.{◌≡◌, true, false, sym, subst, ◌⊎◌, inl, inr}
use Rattle.std.specs.Prelude.{List, ◌∷◌, ◌≢◌}
use Rattle.std.proofs.lemmas.Bool.{cases_eq}
use Rattle.fop_types.specs.declared.cells.Cell.{Cell}
use Rattle.fop_types.specs.declared.contents.Row.{Row}
use Rattle.afr_machine.specs.Touching.{has_cell}
use Rattle.afr_machine.specs.Copies.{rows_of}
use Rattle.afr_machine.specs.Requests.{Sender, Ask, Input}
use Rattle.afr_machine.specs.Requests.Input.{Asked}
use Rattle.afr_machine.specs.Locks.{BrickLock}
use Rattle.afr_machine.specs.Bricks.{Brick, stored_by}
use Rattle.afr_machine.specs.Moves.{BrickMove}
use Rattle.afr_machine.specs.Moves.BrickMove.{Stays, Takes, Hands, Serves, Refuses, GivesUp, Steers}
use Rattle.afr_laws.specs.Senders.{EachInput}
use Rattle.afr_laws.specs.Covered.{cells_asked, alters}
use Rattle.afr_laws.specs.Alone.{IsApartFrom}
use Rattle.afr_laws.specs.Standing.{ShowsStill}
use Rattle.afr_laws.proofs.Bools.{apart_bools}
use Rattle.afr_laws.proofs.Copies.Served.{served_store, steered_store}
use Rattle.afr_laws.proofs.Standing.Stores.{later_row, stored_still, share_none_at}

module _ (may : List Input → Type 0) (old new : Brick) where
  -- the front alters none of these cells
  abbrev pub Spares : List Cell → Type 0
  Spares cells = (by : Sender) (ask : Ask) (rest : List Input) → old.line ≡ Asked by ask ∷ rest → alters ask ≡ true → (cell : Cell) → has_cell cells cell ≡ true → has_cell (cells_asked ask) cell ≡ false

  pub move_shows : (cells : List Cell) (rows : Cell → Row) → BrickMove may old new → Spares cells → ShowsStill old.store cells rows → ShowsStill new.store cells rows
  move_shows cells rows (Stays is) spares s = subst (λ (b : Brick). ShowsStill b.store cells rows) (sym is) s
  move_shows cells rows (Takes inputs its is) spares s = subst (λ (b : Brick). ShowsStill b.store cells rows) (sym is) s
  move_shows cells rows (Hands first rest front is) spares s = subst (λ (b : Brick). ShowsStill b.store cells rows) (sym is) s
  move_shows cells rows (Serves by ask rest front would is) spares s =
      subst (λ (b : Brick). ShowsStill b.store cells rows) (sym is)
      (subst (λ st. ShowsStill st cells rows) (sym (served_store old.power by ask (record old { line = rest })))
      (λ cell has. later_row (rows cell) (rows_of old.store cell) (rows_of (stored_by ask old.store) cell) (s cell has) (stored_still old.store cell ask (λ alter. spares by ask rest front alter cell has))))
  move_shows cells rows (Refuses by ask answer rest front may_be refusal is) spares s = subst (λ (b : Brick). ShowsStill b.store cells rows) (sym is) s
  move_shows cells rows (GivesUp by ask rest front would is) spares s = subst (λ (b : Brick). ShowsStill b.store cells rows) (sym is) s
  move_shows cells rows (Steers control rest front is) spares s =
      subst (λ (b : Brick). ShowsStill b.store cells rows) (sym is) (subst (λ st. ShowsStill st cells rows) (sym (steered_store control (record old { line = rest }))) s)

-- the front is of another transaction and apart from the lock, or of its own and alters nothing
pub front_spares : (b : Brick) (lock : BrickLock) → EachInput (IsApartFrom lock) b.line → EachInput (λ by ask. by.txn ≡ lock.by.txn → alters ask ≡ false) b.line →
    (by : Sender) (ask : Ask) (rest : List Input) → b.line ≡ Asked by ask ∷ rest → alters ask ≡ true → (cell : Cell) → has_cell lock.cells cell ≡ true → has_cell (cells_asked ask) cell ≡ false
front_spares b lock apart calm by ask rest front alter cell has = by_case (cases_eq by.txn lock.by.txn) where
  by_case : (by.txn ≡ lock.by.txn) ⊎ (by.txn ≢ lock.by.txn) → has_cell (cells_asked ask) cell ≡ false
  by_case (inl same) = apart_bools alter ((subst (EachInput (λ s a. s.txn ≡ lock.by.txn → alters a ≡ false)) front calm).0 same)
  by_case (inr other) = share_none_at lock.cells (cells_asked ask) cell ((subst (EachInput (IsApartFrom lock)) front apart).0 alter other) has
