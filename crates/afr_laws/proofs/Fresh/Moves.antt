-- A brick accuses only on cells that were written, after each of its moves.
use Rattle.std.proofs.Common.{◌≡◌, ◌∙◌, ℕ, true, sym, subst, ◌⊎◌, inl, inr}
use Rattle.std.specs.Prelude.{List, ◌∷◌, ◌&&◌, not}
use Rattle.fop_types.specs.declared.cells.Cell.{Cell}
use Rattle.afr_machine.specs.Copies.{Store}
use Rattle.afr_machine.specs.Requests.{Sender, Ask, Input}
use Rattle.afr_machine.specs.Requests.Input.{Asked}
use Rattle.afr_machine.specs.Bricks.{Brick, stored_by}
use Rattle.afr_machine.specs.Moves.{BrickMove}
use Rattle.afr_machine.specs.Moves.BrickMove.{Stays, Takes, Hands, Serves, Refuses, GivesUp, Steers}
use Rattle.afr_laws.specs.Senders.{EachInput}
use Rattle.afr_laws.specs.Rows.{accuses_at, adds, pardons}
use Rattle.afr_laws.specs.Fresh.{AccusesWritten}
use Rattle.afr_laws.proofs.Bools.{both_left, either_way}
use Rattle.afr_laws.proofs.Accusers.{accusers_follow}
use Rattle.afr_laws.proofs.Senders.{inputs_append}
use Rattle.afr_laws.proofs.Connecting.{served_line, steered_line}
use Rattle.afr_laws.proofs.Copies.Served.{served_store, steered_store}

module _ (P : Cell → Type 0) where
  -- the request accuses only there
  abbrev pub AddsOn : Sender → Ask → Type 0
  AddsOn by ask = (cell : Cell) (i : ℕ) → adds ask cell i ≡ true → P cell

  -- another store and line
  renewed : (b new : Brick) (store : Store) (line : List Input) → new.store ≡ store → new.line ≡ line → ((cell : Cell) (i : ℕ) → accuses_at store cell i ≡ true → P cell) → EachInput AddsOn line → AccusesWritten P new
  renewed b new store line is_store is_line rows each = record {
    rows = λ cell i h. rows cell i (subst (λ (s : Store). accuses_at s cell i ≡ true) is_store h);
    line = subst (EachInput AddsOn) (sym is_line) each;
  }

  -- after a request: whom it accuses, or the brick did before
  stored_rows : (store : Store) (ask : Ask) → ((cell : Cell) (i : ℕ) → adds ask cell i ≡ true → P cell) → ((cell : Cell) (i : ℕ) → accuses_at store cell i ≡ true → P cell) → (cell : Cell) (i : ℕ) → accuses_at (stored_by ask store) cell i ≡ true → P cell
  stored_rows store ask asked rows cell i h = by_case (either_way (adds ask cell i) (accuses_at store cell i && not (pardons ask cell i)) (sym (accusers_follow ask store cell i) ∙ h)) where
    by_case : (adds ask cell i ≡ true) ⊎ ((accuses_at store cell i && not (pardons ask cell i)) ≡ true) → P cell
    by_case (inl added) = asked cell i added
    by_case (inr stayed) = rows cell i (both_left (accuses_at store cell i) (not (pardons ask cell i)) stayed)

  front_each : (b : Brick) (by : Sender) (ask : Ask) (rest : List Input) → b.line ≡ Asked by ask ∷ rest → AccusesWritten P b → AddsOn by ask × EachInput AddsOn rest
  front_each b by ask rest front a = subst (EachInput AddsOn) front a.line

  pub move_accuses : (may : List Input → Type 0) (old new : Brick) → BrickMove may old new → ((inputs : List Input) → may inputs → EachInput AddsOn inputs) → AccusesWritten P old → AccusesWritten P new
  move_accuses may old new (Stays is) takes a = subst (AccusesWritten P) (sym is) a
  move_accuses may old new (Takes inputs its is) takes a = subst (AccusesWritten P) (sym is) (record { rows = a.rows; line = inputs_append AddsOn old.line inputs a.line (takes inputs its) })
  move_accuses may old new (Hands first rest front is) takes a = subst (AccusesWritten P) (sym is) (record { rows = a.rows; line = a.line })
  move_accuses may old new (Serves by ask rest front served is) takes a =
      let f = front_each old by ask rest front a in
      subst (AccusesWritten P) (sym is)
      (renewed old _ (stored_by ask old.store) rest (served_store old.power by ask (record old { line = rest })) (served_line old.power by ask (record old { line = rest })) (stored_rows old.store ask f.0 a.rows) f.1)
  move_accuses may old new (Refuses by ask answer rest front refusable refusal is) takes a = subst (AccusesWritten P) (sym is) (record { rows = a.rows; line = (front_each old by ask rest front a).1 })
  move_accuses may old new (GivesUp by ask rest front served is) takes a = subst (AccusesWritten P) (sym is) (record { rows = a.rows; line = (front_each old by ask rest front a).1 })
  move_accuses may old new (Steers control rest front is) takes a =
      subst (AccusesWritten P) (sym is)
      (renewed old _ old.store rest (steered_store control (record old { line = rest })) (steered_line control (record old { line = rest })) a.rows (subst (EachInput AddsOn) front a.line))
