-- What a move of a brick leaves of accusers and of copies.
use Rattle.std.proofs.Common.{◌≡◌, ◌∙◌, ℕ, Bool, true, false, refl, sym, ap, subst, ◌⊎◌, inl, inr, Some, is_some}
use Rattle.std.specs.Prelude.{if◌then◌else◌, List, [], ◌∷◌, ◌++◌, ◌||◌, ◌&&◌, not}
use Rattle.fop_types.specs.StoreOps.{needs, fits, content_after}
use Rattle.fop_types.specs.declared.cells.Cell.{Cell}
use Rattle.fop_types.specs.declared.store_ops.StoreOp.{StoreOp}
use Rattle.afr_machine.specs.Touching.{is_cell, has_cell}
use Rattle.afr_machine.specs.Copies.{Kept, Store, Fetched, contents_of, rows_of, on_cells, mark_of, post_of, settle_of, clear_of, replaced, changes_after, op_of, after_op}
use Rattle.afr_machine.specs.Requests.{Sender, Ask, Input}
use Rattle.afr_machine.specs.Requests.Ask.{Mark, Op, Post, Replace, Clear, Settle}
use Rattle.afr_machine.specs.Requests.Input.{Asked, Steered}
use Rattle.afr_machine.specs.Bricks.{Brick, stored_by, served_by, steered}
use Rattle.afr_machine.specs.Moves.{BrickMove}
use Rattle.afr_machine.specs.Moves.BrickMove.{Stays, Takes, Hands, Serves, Refuses, GivesUp, Steers}
use Rattle.afr_laws.specs.Rows.{accuses_at, adds, pardons}
use Rattle.afr_laws.specs.Sound.{comes, accuses_coming}
use Rattle.afr_laws.proofs.Bools.{both_left, either_way, or_left, or_last}
use Rattle.afr_laws.proofs.Accusers.{accusers_follow}
use Rattle.afr_laws.proofs.Connecting.{served_line, steered_line}
use Rattle.afr_laws.proofs.Copies.Contents.{content_stays}
use Rattle.afr_laws.proofs.Copies.Served.{served_store, steered_store}
use Rattle.afr_laws.proofs.Standing.Stores.{some_content, some_copy}

-- ---- a copy that is there stays

module _ (store : Store) (cell : Cell) where
  counted_present : (cells : List Cell) (change : Kept → Kept) → ((kept : Kept) → (change kept).copy ≡ kept.copy) → is_some (store cell).copy ≡ true → is_some (on_cells cells change store cell).copy ≡ true
  counted_present cells change same h = by_case (has_cell cells cell) where
    by_case : (b : Bool) → is_some (if b then change (store cell) else store cell).copy ≡ true
    by_case true = ap is_some (same (store cell)) ∙ h
    by_case false = h

  op_present : (u : ℕ) (op : StoreOp) → is_some (store cell).copy ≡ true → is_some (after_op u op store cell).copy ≡ true
  op_present u op h = by_case (fits (contents_of store) op) where
    by_case : (b : Bool) → is_some (if b then op_of (contents_of store) u op cell (store cell) else store cell).copy ≡ true
    by_case true = some_copy (changes_after (has_cell (needs op) cell) u (store cell).copy) (content_after (contents_of store) op cell) (content_stays (contents_of store) op cell (some_content (store cell).copy h))
    by_case false = h

  replaced_present : (at : Cell) (found : Fetched) → is_some (store cell).copy ≡ true → is_some (replaced at found store cell).copy ≡ true
  replaced_present at found h = by_case (is_cell cell at) where
    by_case : (b : Bool) → is_some (if b then record (store cell) { copy = Some found.copy; last = found.last } else store cell).copy ≡ true
    by_case true = refl
    by_case false = h

  pub stored_present : (ask : Ask) → (rows_of store cell).present ≡ true → (rows_of (stored_by ask store) cell).present ≡ true
  stored_present (Mark u cells) h = counted_present cells mark_of (λ kept. refl) h
  stored_present (Op u op) h = op_present u op h
  stored_present (Post u cells accused) h = counted_present cells (post_of accused) (λ kept. refl) h
  stored_present (Replace at found) h = replaced_present at found h
  stored_present (Clear cells who) h = counted_present cells (clear_of who) (λ kept. refl) h
  stored_present (Settle u cells accused) h = counted_present cells (settle_of accused) (λ kept. refl) h
  stored_present other h = h

-- ---- accusers, and those to come

comes_append : (cell : Cell) (i : ℕ) (xs ys : List Input) → comes (xs ++ ys) cell i ≡ true → (comes xs cell i ≡ true) ⊎ (comes ys cell i ≡ true)
comes_append cell i [] ys h = inr h
comes_append cell i (Asked by ask ∷ xs) ys h = by_case (comes_append cell i xs ys) (either_way (adds ask cell i) (comes (xs ++ ys) cell i) h) where
  rest : (comes xs cell i ≡ true) ⊎ (comes ys cell i ≡ true) → (comes (Asked by ask ∷ xs) cell i ≡ true) ⊎ (comes ys cell i ≡ true)
  rest (inl l) = inl (or_last (adds ask cell i) (comes xs cell i) l)
  rest (inr r) = inr r

  by_case : (comes (xs ++ ys) cell i ≡ true → (comes xs cell i ≡ true) ⊎ (comes ys cell i ≡ true)) → (adds ask cell i ≡ true) ⊎ (comes (xs ++ ys) cell i ≡ true) → (comes (Asked by ask ∷ xs) cell i ≡ true) ⊎ (comes ys cell i ≡ true)
  by_case more (inl here) = inl (or_left (adds ask cell i) (comes xs cell i) here)
  by_case more (inr later) = rest (more later)
comes_append cell i (Steered control ∷ xs) ys h = comes_append cell i xs ys h

module _ (may : List Input → Type 0) (old new : Brick) (cell : Cell) (i : ℕ) where
  -- in the row or in the line of a brick
  abbrev Accuses : Brick → Type 0
  Accuses b = accuses_coming b cell i ≡ true

  in_line : (b : Brick) → comes b.line cell i ≡ true → accuses_coming b cell i ≡ true
  in_line b h = or_last (accuses_at b.store cell i) (comes b.line cell i) h

  in_row : (b : Brick) → accuses_at b.store cell i ≡ true → accuses_coming b cell i ≡ true
  in_row b h = or_left (accuses_at b.store cell i) (comes b.line cell i) h

  -- the line without its front
  shorter : (by : Sender) (ask : Ask) (rest : List Input) → old.line ≡ Asked by ask ∷ rest → (accuses_at old.store cell i || comes rest cell i) ≡ true → accuses_coming old cell i ≡ true
  shorter by ask rest front h = by_case (either_way (accuses_at old.store cell i) (comes rest cell i) h) where
    by_case : (accuses_at old.store cell i ≡ true) ⊎ (comes rest cell i ≡ true) → accuses_coming old cell i ≡ true
    by_case (inl row) = in_row old row
    by_case (inr line) = in_line old (ap (λ (l : List Input). comes l cell i) front ∙ or_last (adds ask cell i) (comes rest cell i) line)

  -- a request of the line accuses before it is served, too
  served : (by : Sender) (ask : Ask) (rest : List Input) → old.line ≡ Asked by ask ∷ rest → (accuses_at (stored_by ask old.store) cell i || comes rest cell i) ≡ true → accuses_coming old cell i ≡ true
  served by ask rest front h = by_case (either_way (accuses_at (stored_by ask old.store) cell i) (comes rest cell i) h) where
    of_row : (adds ask cell i ≡ true) ⊎ ((accuses_at old.store cell i && not (pardons ask cell i)) ≡ true) → accuses_coming old cell i ≡ true
    of_row (inl added) = in_line old (ap (λ (l : List Input). comes l cell i) front ∙ or_left (adds ask cell i) (comes rest cell i) added)
    of_row (inr stood) = in_row old (both_left (accuses_at old.store cell i) (not (pardons ask cell i)) stood)

    by_case : (accuses_at (stored_by ask old.store) cell i ≡ true) ⊎ (comes rest cell i ≡ true) → accuses_coming old cell i ≡ true
    by_case (inl row) = of_row (either_way (adds ask cell i) (accuses_at old.store cell i && not (pardons ask cell i)) (sym (accusers_follow ask old.store cell i) ∙ row))
    by_case (inr line) = shorter by ask rest front (or_last (accuses_at old.store cell i) (comes rest cell i) line)

  taken : (inputs : List Input) → (accuses_at old.store cell i || comes (old.line ++ inputs) cell i) ≡ true → (accuses_coming old cell i ≡ true) ⊎ (comes inputs cell i ≡ true)
  taken inputs h = by_case (either_way (accuses_at old.store cell i) (comes (old.line ++ inputs) cell i) h) where
    of_line : (comes old.line cell i ≡ true) ⊎ (comes inputs cell i ≡ true) → (accuses_coming old cell i ≡ true) ⊎ (comes inputs cell i ≡ true)
    of_line (inl l) = inl (in_line old l)
    of_line (inr r) = inr r

    by_case : (accuses_at old.store cell i ≡ true) ⊎ (comes (old.line ++ inputs) cell i ≡ true) → (accuses_coming old cell i ≡ true) ⊎ (comes inputs cell i ≡ true)
    by_case (inl row) = inl (in_row old row)
    by_case (inr line) = of_line (comes_append cell i old.line inputs line)

  -- who accuses after a move accused before it, or what was taken accuses
  pub move_accuses : BrickMove may old new → accuses_coming new cell i ≡ true → (accuses_coming old cell i ≡ true) ⊎ ((inputs : List Input) × (may inputs × (comes inputs cell i ≡ true)))
  move_accuses (Stays is) h = inl (subst (λ (b : Brick). accuses_coming b cell i ≡ true) is h)
  move_accuses (Takes inputs its is) h = by_case (taken inputs (subst (λ (b : Brick). accuses_coming b cell i ≡ true) is h)) where
    by_case : (accuses_coming old cell i ≡ true) ⊎ (comes inputs cell i ≡ true) → (accuses_coming old cell i ≡ true) ⊎ ((more : List Input) × (may more × (comes more cell i ≡ true)))
    by_case (inl before) = inl before
    by_case (inr now) = inr (inputs, (its, now))
  move_accuses (Hands first rest front is) h = inl (subst (λ (b : Brick). accuses_coming b cell i ≡ true) is h)
  move_accuses (Serves by ask rest front would is) h =
      inl (served by ask rest front
      (subst (λ st. (accuses_at st cell i || comes rest cell i) ≡ true) (served_store old.power by ask (record old { line = rest }))
      (subst (λ l. (accuses_at (served_by old.power by ask (record old { line = rest })).store cell i || comes l cell i) ≡ true) (served_line old.power by ask (record old { line = rest })) (subst (λ (b : Brick). accuses_coming b cell i ≡ true) is h))))
  move_accuses (Refuses by ask answer rest front may_be refusal is) h = inl (shorter by ask rest front (subst (λ (b : Brick). accuses_coming b cell i ≡ true) is h))
  move_accuses (GivesUp by ask rest front would is) h = inl (shorter by ask rest front (subst (λ (b : Brick). accuses_coming b cell i ≡ true) is h))
  move_accuses (Steers control rest front is) h =
      inl (by_line (subst (λ st. (accuses_at st cell i || comes rest cell i) ≡ true) (steered_store control (record old { line = rest }))
      (subst (λ l. (accuses_at (steered control (record old { line = rest })).store cell i || comes l cell i) ≡ true) (steered_line control (record old { line = rest })) (subst (λ (b : Brick). accuses_coming b cell i ≡ true) is h)))) where
        by_line : (accuses_at old.store cell i || comes rest cell i) ≡ true → accuses_coming old cell i ≡ true
        by_line e = by_case (either_way (accuses_at old.store cell i) (comes rest cell i) e) where
          by_case : (accuses_at old.store cell i ≡ true) ⊎ (comes rest cell i ≡ true) → accuses_coming old cell i ≡ true
          by_case (inl row) = in_row old row
          by_case (inr line) = in_line old (ap (λ (l : List Input). comes l cell i) front ∙ line)

-- a copy that is there stays
pub move_present : (may : List Input → Type 0) (old new : Brick) (cell : Cell) → BrickMove may old new → (rows_of old.store cell).present ≡ true → (rows_of new.store cell).present ≡ true
move_present may old new cell (Serves by ask rest front would is) h =
    subst (λ (b : Brick). (rows_of b.store cell).present ≡ true) (sym is) (subst (λ st. (rows_of st cell).present ≡ true) (sym (served_store old.power by ask (record old { line = rest }))) (stored_present old.store cell ask h))
move_present may old new cell (Steers control rest front is) h =
    subst (λ (b : Brick). (rows_of b.store cell).present ≡ true) (sym is) (subst (λ st. (rows_of st cell).present ≡ true) (sym (steered_store control (record old { line = rest }))) h)
move_present may old new cell (Stays is) h = subst (λ (b : Brick). (rows_of b.store cell).present ≡ true) (sym is) h
move_present may old new cell (Takes inputs its is) h = subst (λ (b : Brick). (rows_of b.store cell).present ≡ true) (sym is) h
move_present may old new cell (Hands first rest front is) h = subst (λ (b : Brick). (rows_of b.store cell).present ≡ true) (sym is) h
move_present may old new cell (Refuses by ask answer rest front may_be refusal is) h = subst (λ (b : Brick). (rows_of b.store cell).present ≡ true) (sym is) h
move_present may old new cell (GivesUp by ask rest front would is) h = subst (λ (b : Brick). (rows_of b.store cell).present ≡ true) (sym is) h
