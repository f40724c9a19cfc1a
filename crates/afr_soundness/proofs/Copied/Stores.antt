-- What a request leaves of a copy that it does not change.
use Rattle.std.proofs.Common.{◌≡◌, ◌∙◌, ℕ, Bool, true, false, refl, sym, ap, subst, Option, Some, None}
use Rattle.std.specs.Prelude.{if◌then◌else◌, List, [], ◌∷◌, ◌||◌, ◌&&◌, is_none}
use Rattle.std.specs.Ordering.{is_eq, match_ordering}
use Rattle.std.specs.declared.cmp.Ordering.{Ordering}
use Rattle.std.specs.declared.cmp.Ordering.TheVariants.{Less, Equal, Greater}
use Rattle.fop_types.specs.Cells.{data_cell, meta_cell, names_cell}
use Rattle.fop_types.specs.Orders.{gfid_cmp, cell_cmp}
use Rattle.fop_types.specs.Names.{renamed}
use Rattle.fop_types.specs.StoreOps.{Contents, Edit, needs, both_names, births, fits, edits, moved_in, item_in, edited_if_present, edited_on, born_if_absent, born_on, content_after}
use Rattle.fop_types.specs.StoreOps.Edit.{PutBytes, Resize, PutMode, PutAttr, DropAttr, PutItem, DropItem, MarkRemoved}
use Rattle.fop_types.specs.Jobs.{cells_of}
use Rattle.fop_types.specs.declared.cells.Cell.{Cell}
use Rattle.fop_types.specs.declared.cells.Gfid.{Gfid}
use Rattle.fop_types.specs.declared.contents.Content.{Content}
use Rattle.fop_types.specs.declared.contents.Item.{Item}
use Rattle.fop_types.specs.declared.store_ops.StoreOp.{StoreOp}
use Rattle.fop_types.specs.declared.store_ops.StoreOp.TheVariants.{Write, Truncate, SetMode, SetAttr, DelAttr, AddName, DropName, DropDir, Move, MakeCopy}
use Rattle.fop_types.proofs.MapLemmas.{gfid_exact}
use Rattle.afr_machine.specs.Touching.{is_cell, has_cell}
use Rattle.afr_machine.specs.Copies.{Copy, Kept, Store, Fetched, contents_of, content_of, fetched_of, on_cells, mark_of, post_of, settle_of, clear_of, changes_after, copy_with, op_of, after_op}
use Rattle.afr_machine.specs.Requests.{Sender, Ask, Input}
use Rattle.afr_machine.specs.Requests.Ask.{Mark, Op, Post, Replace, Clear, Settle}
use Rattle.afr_machine.specs.Requests.Input.{Asked}
use Rattle.afr_machine.specs.Bricks.{Brick, stored_by}
use Rattle.afr_machine.specs.Moves.{BrickMove}
use Rattle.afr_machine.specs.Moves.BrickMove.{Stays, Takes, Hands, Serves, Refuses, GivesUp, Steers}
use Rattle.afr_laws.specs.Covered.{cells_asked, alters}
use Rattle.afr_laws.proofs.Bools.{or_right, neither_left, neither_right}
use Rattle.afr_laws.proofs.Copies.Served.{served_store, steered_store}
use Rattle.afr_soundness.specs.Copied.{copy_in}

-- the request changes the copy of the cell; births are not among these
abbrev pub recopies : Ask → Cell → Bool
recopies (Op u op) cell = has_cell (needs op) cell
recopies (Replace other found) cell = has_cell (other ∷ []) cell
recopies other cell = false

pub recopies_alters : (ask : Ask) (cell : Cell) → recopies ask cell ≡ true → (alters ask ≡ true) × (has_cell (cells_asked ask) cell ≡ true)
recopies_alters (Op u op) cell h = (refl, h)
recopies_alters (Replace other found) cell h = (refl, h)
recopies_alters other cell h = absurd (let e : false ≡ true = h in cc)

-- ---- contents

-- an edit of another cell
skip : (cell c : Cell) (edit : Edit) (content : Option Content) → is_cell cell c ≡ false → (if is_eq (cell_cmp cell c) then edited_if_present edit content else content) ≡ content
skip cell c edit content h = ap (λ b. if b then edited_if_present edit content else content) h

alone : (cell c : Cell) (edit : Edit) (content : Option Content) → has_cell (c ∷ []) cell ≡ false → (if is_eq (cell_cmp cell c) then edited_if_present edit content else content) ≡ content
alone cell c edit content h = skip cell c edit content (sym (or_right (is_cell cell c)) ∙ h)

apart_both : (a b : Gfid) (cell : Cell) → has_cell (both_names a b) cell ≡ false → (is_cell cell (names_cell a) ≡ false) × (is_cell cell (names_cell b) ≡ false)
apart_both a b cell h = by_order (gfid_cmp a b) refl h where
  by_order : (o : Ordering) → gfid_cmp a b ≡ o → has_cell (match_ordering o (names_cell a ∷ names_cell b ∷ []) (names_cell a ∷ []) (names_cell b ∷ names_cell a ∷ [])) cell ≡ false → (is_cell cell (names_cell a) ≡ false) × (is_cell cell (names_cell b) ≡ false)
  by_order Less e n = (neither_left (is_cell cell (names_cell a)) (has_cell (names_cell b ∷ []) cell) n, sym (or_right (is_cell cell (names_cell b))) ∙ neither_right (is_cell cell (names_cell a)) (has_cell (names_cell b ∷ []) cell) n)
  by_order Equal e n = let one : is_cell cell (names_cell a) ≡ false = sym (or_right (is_cell cell (names_cell a))) ∙ n in (one, subst (λ g. is_cell cell (names_cell g) ≡ false) (gfid_exact a b e) one)
  by_order Greater e n = (sym (or_right (is_cell cell (names_cell a))) ∙ neither_right (is_cell cell (names_cell b)) (has_cell (names_cell a ∷ []) cell) n, neither_left (is_cell cell (names_cell b)) (has_cell (names_cell a ∷ []) cell) n)

-- an op edits cells that it needs alone
unedited : (contents : Contents) (op : StoreOp) (cell : Cell) (content : Option Content) → has_cell (needs op) cell ≡ false → edited_on cell content (edits contents op) ≡ content
unedited contents (Write gfid offset bytes) cell content h = alone cell (data_cell gfid) (PutBytes offset bytes) content h
unedited contents (Truncate gfid size) cell content h = alone cell (data_cell gfid) (Resize size) content h
unedited contents (SetMode gfid mode) cell content h = alone cell (meta_cell gfid) (PutMode mode) content h
unedited contents (SetAttr gfid attr) cell content h = alone cell (meta_cell gfid) (PutAttr attr) content h
unedited contents (DelAttr gfid name) cell content h = alone cell (meta_cell gfid) (DropAttr name) content h
unedited contents (AddName parent item mode span) cell content h = alone cell (names_cell parent) (PutItem item) content h
unedited contents (DropName parent name) cell content h = alone cell (names_cell parent) (DropItem name) content h
unedited contents (DropDir parent name gfid) cell content h =
    let n = apart_both parent gfid cell h in
    ap (λ c. if is_eq (cell_cmp cell (names_cell gfid)) then edited_if_present MarkRemoved c else c) (skip cell (names_cell parent) (DropItem name) content n.0) ∙ skip cell (names_cell gfid) MarkRemoved content n.1
unedited contents (Move parent name target new_name) cell content h = by_item (item_in contents parent name) where
  n : (is_cell cell (names_cell parent) ≡ false) × (is_cell cell (names_cell target) ≡ false)
  n = apart_both parent target cell h

  by_item : (item : Option Item) → edited_on cell content ((names_cell parent, DropItem name) ∷ moved_in item target new_name) ≡ content
  by_item None = skip cell (names_cell parent) (DropItem name) content n.0
  by_item (Some item) =
      ap (λ c. if is_eq (cell_cmp cell (names_cell target)) then edited_if_present (PutItem (renamed item new_name)) c else c) (skip cell (names_cell parent) (DropItem name) content n.0) ∙ skip cell (names_cell target) (PutItem (renamed item new_name)) content n.1
unedited contents (MakeCopy gfid span) cell content h = refl

unborn : (cell : Cell) (bs : List (Cell × Content)) (content : Content) → born_on cell (Some content) bs ≡ Some content
unborn cell [] content = refl
unborn cell (b ∷ bs) content = by_case (unborn cell bs content) (is_eq (cell_cmp cell b.0)) where
  by_case : born_on cell (Some content) bs ≡ Some content → (c : Bool) → born_on cell (if c then born_if_absent b.1 (Some content) else Some content) bs ≡ Some content
  by_case rest true = rest
  by_case rest false = rest

content_kept : (contents : Contents) (op : StoreOp) (cell : Cell) (content : Content) → has_cell (needs op) cell ≡ false → contents cell ≡ Some content → content_after contents op cell ≡ Some content
content_kept contents op cell content none is = ap (λ c. born_on cell c (births op)) (unedited contents op cell (contents cell) none ∙ is) ∙ unborn cell (births op) content

-- ---- one request

module _ (store : Store) (cell : Cell) (found : Fetched) where
  counted : (cells : List Cell) (change : Kept → Kept) → ((kept : Kept) → ((change kept).copy ≡ kept.copy) × ((change kept).last ≡ kept.last)) → copy_in store cell ≡ Some found → copy_in (on_cells cells change store) cell ≡ Some found
  counted cells change keeps h = by_case (has_cell cells cell) where
    by_case : (b : Bool) → fetched_of (if b then change (store cell) else store cell).copy (if b then change (store cell) else store cell).last ≡ Some found
    by_case true = ap (λ c. fetched_of c (change (store cell)).last) (keeps (store cell)).0 ∙ ap (fetched_of (store cell).copy) (keeps (store cell)).1 ∙ h
    by_case false = h

  op_keeps : (u : ℕ) (op : StoreOp) → has_cell (needs op) cell ≡ false → copy_in store cell ≡ Some found → copy_in (after_op u op store) cell ≡ Some found
  op_keeps u op none h = by_fit (fits (contents_of store) op) where
    by_copy : (copy : Option Copy) (content : Option Content) (born : Bool) → ((c : Copy) → copy ≡ Some c → content ≡ Some c.content) → fetched_of copy (store cell).last ≡ Some found →
        fetched_of (copy_with (changes_after (has_cell (needs op) cell) u copy) content) (if has_cell (needs op) cell || (is_none copy && born) then u else (store cell).last) ≡ Some found
    by_copy None content born stays e = absurd (let no : None ≡ Some found = e in cc)
    by_copy (Some c) content born stays e =
        ap (λ b. fetched_of (copy_with (changes_after b u (Some c)) content) (if b || (false && born) then u else (store cell).last)) none
        ∙ ap (λ x. fetched_of (copy_with c.changes x) (store cell).last) (stays c refl) ∙ e

    by_fit : (b : Bool) → fetched_of (if b then op_of (contents_of store) u op cell (store cell) else store cell).copy (if b then op_of (contents_of store) u op cell (store cell) else store cell).last ≡ Some found
    by_fit true = by_copy (store cell).copy (content_after (contents_of store) op cell) (has_cell (cells_of (births op)) cell) (λ c is. content_kept (contents_of store) op cell c.content none (ap content_of is)) h
    by_fit false = h

  -- a request that does not change the copy
  pub stored_keeps : (ask : Ask) → recopies ask cell ≡ false → copy_in store cell ≡ Some found → copy_in (stored_by ask store) cell ≡ Some found
  stored_keeps (Mark u cells) none h = counted cells mark_of (λ kept. (refl, refl)) h
  stored_keeps (Op u op) none h = op_keeps u op none h
  stored_keeps (Post u cells accused) none h = counted cells (post_of accused) (λ kept. (refl, refl)) h
  stored_keeps (Replace other new) none h = ap (λ b. fetched_of (if b then record (store cell) { copy = Some new.copy; last = new.last } else store cell).copy (if b then record (store cell) { copy = Some new.copy; last = new.last } else store cell).last) (sym (or_right (is_cell cell other)) ∙ none) ∙ h
  stored_keeps (Clear cells who) none h = counted cells (clear_of who) (λ kept. (refl, refl)) h
  stored_keeps (Settle u cells accused) none h = counted cells (settle_of accused) (λ kept. (refl, refl)) h
  stored_keeps other none h = h

-- what a replacement puts in place
pub stored_puts : (store : Store) (other cell : Cell) (found : Fetched) → has_cell (other ∷ []) cell ≡ true → copy_in (stored_by (Replace other found) store) cell ≡ Some found
stored_puts store other cell found h = ap (λ b. fetched_of (if b then record (store cell) { copy = Some found.copy; last = found.last } else store cell).copy (if b then record (store cell) { copy = Some found.copy; last = found.last } else store cell).last) (sym (or_right (is_cell cell other)) ∙ h)

-- ---- one move

pub move_copy : (may : List Input → Type 0) (old new : Brick) (cell : Cell) (found : Fetched) → ((by : Sender) (ask : Ask) (rest : List Input) → old.line ≡ Asked by ask ∷ rest → copy_in (stored_by ask old.store) cell ≡ Some found) →
    copy_in old.store cell ≡ Some found → BrickMove may old new → copy_in new.store cell ≡ Some found
move_copy may old new cell found served h (Stays is) = ap (λ (b : Brick). copy_in b.store cell) is ∙ h
move_copy may old new cell found served h (Takes inputs its is) = ap (λ (b : Brick). copy_in b.store cell) is ∙ h
move_copy may old new cell found served h (Hands first rest front is) = ap (λ (b : Brick). copy_in b.store cell) is ∙ h
move_copy may old new cell found served h (Serves by ask rest front would is) = ap (λ (b : Brick). copy_in b.store cell) is ∙ ap (λ (s : Store). copy_in s cell) (served_store old.power by ask (record old { line = rest })) ∙ served by ask rest front
move_copy may old new cell found served h (Refuses by ask answer rest front may_be refusal is) = ap (λ (b : Brick). copy_in b.store cell) is ∙ h
move_copy may old new cell found served h (GivesUp by ask rest front would is) = ap (λ (b : Brick). copy_in b.store cell) is ∙ h
move_copy may old new cell found served h (Steers control rest front is) = ap (λ (b : Brick). copy_in b.store cell) is ∙ ap (λ (s : Store). copy_in s cell) (steered_store control (record old { line = rest })) ∙ h
