-- The edits of the code, as those of a store op: of one cell, one after another, and of two cells.
use Rattle.std.proofs.Common.{◌≡◌, ◌<◌, ◌+◌, ◌∙◌, ◌∷◌, ℕ, suc, true, false, true≢false, List, [], length, drop, get_or, drop-cons, refl, ap, sym, arith}
use Rattle.std.specs.Prelude.{Option, Some, None, is_some}
use Rattle.std.specs.declared.cmp.Ordering.{Ordering}
use Rattle.std.specs.declared.cmp.Ordering.TheVariants.{Less, Equal, Greater}
use Rattle.std.specs.Ordering.{is_eq, nat_cmp, ordering_then}
use Rattle.std.specs.Map.{set_value}
use Rattle.std.specs.BTreeMap.{is_at}
use Rattle.fop_types.specs.Cells.{names_cell}
use Rattle.fop_types.specs.Orders.{gfid_cmp, cell_cmp}
use Rattle.fop_types.specs.StoreOps.{Edit as Part, edited_if_present, item_in, moved_in}
use Rattle.fop_types.specs.StoreOps.Edit.{DropItem, PutItem}
use Rattle.fop_types.specs.declared.cells.Gfid.{Gfid}
use Rattle.fop_types.specs.declared.cells.Cell.{Cell}
use Rattle.fop_types.specs.declared.contents.Content.{Content}
use Rattle.fop_types.specs.declared.contents.Item.{Item}
use Rattle.fop_types.specs.declared.contents.Mask.{Mask}
use Rattle.fop_types.proofs.MapLemmas.{gfid_exact}
use Rattle.contents.specs.Edits.{edited_by}
use Rattle.contents.specs.declared.edits.Edit.{Edit}
use Rattle.contents.specs.declared.edits.Edit.TheVariants as by
use Rattle.cell_store.specs.declared.kept.Kept.{Kept}
use Rattle.cell_store.specs.Cells.{Cells, kept_at, with_kept, contents_of, edit_of, clear_of, cleared, with_edits, with_births}
use Rattle.cell_store.specs.code.Steps.{edited_kept, with_edit}
use Rattle.cell_store.proofs.Copies.{kept_same, part_with_written}
use Rattle.cell_store.proofs.Orders.{kept_twice, changes_apart, births_keep, edit_after_births}

-- an edit of a copy that is there, and of one that is not
pub edited_there : (e : Edit) (kept : Kept) (content new : Content) (change : ℕ) → kept.content ≡ Some content → new ≡ edited_by e content
    → record kept { content = Some new; last = change } ≡ edited_kept e change kept
edited_there e kept content new change held made = rw made (by_case e ∙ ap (λ (o : Option Content). edited_kept e change (record kept { content = o })) (sym held))
  where
    by_case : (e : Edit) → record kept { content = Some (edited_by e content); last = change } ≡ edited_kept e change (record kept { content = Some content })
    by_case (by.Write offset bytes) = refl
    by_case (by.Resize size) = refl
    by_case (by.SetMode mode) = refl
    by_case (by.PutAttr attr) = refl
    by_case (by.DropAttr name) = refl
    by_case (by.PutItem item) = refl
    by_case (by.DropItem name) = refl
    by_case by.MarkRemoved = refl
    by_case (by.Rename name item) = refl

pub edited_nothing : (e : Edit) (kept : Kept) (change : ℕ) → kept.content ≡ None → record kept { last = change } ≡ edited_kept e change kept
edited_nothing e kept change held = ap (λ (o : Option Content). record kept { content = o; last = change }) held ∙ by_case e ∙ ap (λ (o : Option Content). edited_kept e change (record kept { content = o })) (sym held)
  where
    by_case : (e : Edit) → record kept { content = None; last = change } ≡ edited_kept e change (record kept { content = None })
    by_case (by.Write offset bytes) = refl
    by_case (by.Resize size) = refl
    by_case (by.SetMode mode) = refl
    by_case (by.PutAttr attr) = refl
    by_case (by.DropAttr name) = refl
    by_case (by.PutItem item) = refl
    by_case (by.DropItem name) = refl
    by_case by.MarkRemoved = refl
    by_case (by.Rename name item) = refl

-- two edits of one cell
pub edits_of_one : (cells : Cells) (c : Cell) (d e : Part) (change : ℕ)
    → with_kept cells c (edit_of (edit_of (kept_at cells c) d change) e change) ≡ with_edits cells change ((c, d) ∷ (c, e) ∷ [])
edits_of_one cells c d e change =
    let k : Kept = edit_of (kept_at cells c) d change in
    sym (kept_twice cells c k (edit_of k e change)) ∙ ap (λ (x : Kept). with_kept (with_kept cells c k) c (edit_of x e change)) (sym (kept_same cells c k))

-- edits of two cells, the second first
pub edits_apart : (cells : Cells) (c b : Cell) (d e : Part) (change : ℕ) → is_eq (cell_cmp c b) ≡ false
    → with_kept (with_kept cells b (edit_of (kept_at cells b) e change)) c (edit_of (kept_at (with_kept cells b (edit_of (kept_at cells b) e change)) c) d change)
    ≡ with_edits cells change ((c, d) ∷ (b, e) ∷ [])
edits_apart cells c b d e change differ = sym (changes_apart cells c b (λ k. edit_of k d change) (λ k. edit_of k e change) differ)

-- a cell that is present stays so when one is edited
still : (o : Option Content) (e : Part) → is_some (edited_if_present e o) ≡ is_some o
still None e = refl
still (Some content) e = refl

pub still_after : (cells now : Cells) (c q cell : Cell) (e : Part) (change : ℕ) → is_some (contents_of cells q) ≡ true → cell ≡ q
    → now ≡ with_kept cells c (edit_of (kept_at cells c) e change) → is_some (contents_of now cell) ≡ true
still_after cells now c q cell e change there is edited =
    ap (λ (x : Cell). is_some (contents_of now x)) is ∙ ap (λ (l : Cells). is_some (contents_of l q)) edited
    ∙ part_with_written (λ k. is_some k.content) cells c q (edit_of (kept_at cells c) e change) (still (kept_at cells c).content e) ∙ there

-- a name put in after the births of its object's cells
pub added : (cells now after : Cells) (parent : Gfid) (cell : Cell) (item : Item) (change : ℕ) (bs : List (Cell × Content))
    → is_some (contents_of cells (names_cell parent)) ≡ true → cell ≡ names_cell parent → now ≡ with_births cells change bs → after ≡ with_edit now cell (by.PutItem item) change
    → after ≡ with_births (with_edits cells change ((names_cell parent, PutItem item) ∷ [])) change bs
added cells now after parent cell item change bs there is births put =
    put ∙ ap (λ (x : Cell). with_edit now x (by.PutItem item) change) is ∙ ap (λ (l : Cells). with_edit l (names_cell parent) (by.PutItem item) change) births
    ∙ edit_after_births bs cells (names_cell parent) (PutItem item) change there

pub added_there : (cells now : Cells) (parent : Gfid) (cell : Cell) (change : ℕ) (bs : List (Cell × Content))
    → is_some (contents_of cells (names_cell parent)) ≡ true → cell ≡ names_cell parent → now ≡ with_births cells change bs → is_some (contents_of now cell) ≡ true
added_there cells now parent cell change bs there is births =
    ap (λ (x : Cell). is_some (contents_of now x)) is ∙ ap (λ (l : Cells). is_some (contents_of l (names_cell parent))) births ∙ births_keep bs cells (names_cell parent) change there

-- moves, within a directory and between two
gfids_equal : (a b : Gfid) → is_eq (gfid_cmp a b) ≡ true → a ≡ b
gfids_equal a b same = tested (gfid_cmp a b) refl
  where
    tested : (r : Ordering) → gfid_cmp a b ≡ r → a ≡ b
    tested Less h = absurd (true≢false (sym same ∙ ap is_eq h))
    tested Equal h = gfid_exact a b h
    tested Greater h = absurd (true≢false (sym same ∙ ap is_eq h))

abbrev moved : Item → List ℕ → List ℕ → Item
moved found new_name target = record { name = new_name; gfid = found.gfid; kind = found.kind; target = target }

module _ (cells after : Cells) (parent target : Gfid) (name new_name : List ℕ) (found : Item) (link : List ℕ) (change : ℕ)
    (is_found : item_in (contents_of cells) parent name ≡ Some found) (copied : link ≡ found.target) where
  edits_found : (names_cell parent, DropItem name) ∷ (names_cell target, PutItem (moved found new_name link)) ∷ []
      ≡ (names_cell parent, DropItem name) ∷ moved_in (item_in (contents_of cells) parent name) target new_name
  edits_found =
      ap (λ (t : List ℕ). (names_cell parent, DropItem name) ∷ (names_cell target, PutItem (moved found new_name t)) ∷ []) copied
      ∙ ap (λ (o : Option Item). (names_cell parent, DropItem name) ∷ moved_in o target new_name) (sym is_found)

  pub renamed_in : (cell : Cell) → cell ≡ names_cell parent → is_eq (gfid_cmp parent target) ≡ true → after ≡ with_edit cells cell (by.Rename name (moved found new_name link)) change
      → after ≡ with_edits cells change ((names_cell parent, DropItem name) ∷ moved_in (item_in (contents_of cells) parent name) target new_name)
  renamed_in cell is same edited =
      edited ∙ ap (λ (x : Cell). with_edit cells x (by.Rename name (moved found new_name link)) change) is
      ∙ edits_of_one cells (names_cell parent) (DropItem name) (PutItem (moved found new_name link)) change
      ∙ ap (λ (t : Gfid). with_edits cells change ((names_cell parent, DropItem name) ∷ (names_cell t, PutItem (moved found new_name link)) ∷ [])) (gfids_equal parent target same)
      ∙ ap (with_edits cells change) edits_found

  pub moved_to : after ≡ with_edits cells change ((names_cell parent, DropItem name) ∷ (names_cell target, PutItem (moved found new_name link)) ∷ [])
      → after ≡ with_edits cells change ((names_cell parent, DropItem name) ∷ moved_in (item_in (contents_of cells) parent name) target new_name)
  moved_to edited = edited ∙ ap (with_edits cells change) edits_found

names_apart : (a b : Gfid) → is_eq (gfid_cmp a b) ≡ false → is_eq (cell_cmp (names_cell a) (names_cell b)) ≡ false
names_apart a b differ = by_case (gfid_cmp a b) differ
  where
    by_case : (r : Ordering) → is_eq r ≡ false → is_eq (ordering_then r (nat_cmp 2 2)) ≡ false
    by_case Less h = refl
    by_case Equal h = absurd (true≢false h)
    by_case Greater h = refl

pub moved_between : (cells now after : Cells) (parent target : Gfid) (name : List ℕ) (item : Item) (from to : Cell) (change : ℕ)
    → is_eq (gfid_cmp parent target) ≡ false → from ≡ names_cell parent → to ≡ names_cell target
    → now ≡ with_edit cells to (by.PutItem item) change → after ≡ with_edit now from (by.DropItem name) change
    → after ≡ with_edits cells change ((names_cell parent, DropItem name) ∷ (names_cell target, PutItem item) ∷ [])
moved_between cells now after parent target name item from to change differ at_from at_to put dropped =
    dropped ∙ ap (λ (x : Cell). with_edit now x (by.DropItem name) change) at_from
    ∙ ap (λ (l : Cells). with_edit l (names_cell parent) (by.DropItem name) change) (put ∙ ap (λ (x : Cell). with_edit cells x (by.PutItem item) change) at_to)
    ∙ edits_apart cells (names_cell parent) (names_cell target) (DropItem name) (PutItem item) change (names_apart parent target differ)

-- a clear goes on with the next cell
pub clear_next : (those : List Cell) (i : ℕ) (d : Cell) (who : Mask) (cells now start : Cells) → i < length those
    → now ≡ set_value (is_at (cell_cmp (get_or those i d))) cells (clear_of who (kept_at cells (get_or those i d)))
    → cleared (drop i those) who cells ≡ start → cleared (drop (i + 1) those) who now ≡ start
clear_next those i d who cells now start fits made so_far =
    let next : i + 1 ≡ suc i = omega arith in
    ap (λ (n : ℕ). cleared (drop n those) who now) next ∙ ap (λ (l : Cells). cleared (drop (suc i) those) who l) made
    ∙ ap (λ (l : List Cell). cleared l who cells) (sym (drop-cons those i d fits)) ∙ so_far
