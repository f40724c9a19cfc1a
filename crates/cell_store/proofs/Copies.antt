-- The copies of a store after one cell was written, and after an op.
use Rattle.std.proofs.Common.{◌≡◌, ◌∙◌, ℕ, Bool, true, false, true≢false, List, [], ◌∷◌, Some, None, refl, ap, subst, sym}
use Rattle.std.specs.Prelude.{Option, is_none, ◌&&◌, ◌||◌, if◌then◌else◌}
use Rattle.std.specs.declared.cmp.Ordering.{Ordering}
use Rattle.std.specs.declared.cmp.Ordering.TheVariants.{Less, Equal, Greater}
use Rattle.std.specs.Ordering.{is_eq}
use Rattle.fop_types.specs.Orders.{cell_cmp}
use Rattle.fop_types.specs.StoreOps.{Contents, Edit, edits, births, edited_if_present, born_if_absent, with_content, after_edits, after_births}
use Rattle.fop_types.specs.declared.cells.Cell.{Cell}
use Rattle.fop_types.specs.declared.contents.Content.{Content}
use Rattle.fop_types.proofs.MapLemmas.{lookup-put_same, lookup-put_other, cell_exact, cell_cmp_total}
use Rattle.cell_store.specs.declared.kept.Kept.{Kept}
use Rattle.cell_store.specs.Cells.{Cells, kept_at, kept_or_nothing, with_kept, contents_of, edit_of, birth_of, with_edits, with_births}
use Rattle.cell_store.specs.Laws.{is_edited, is_born, OpsChangeCopies}

pub kept_same : (cells : Cells) (c : Cell) (k : Kept) → kept_at (with_kept cells c k) c ≡ k
kept_same cells c k = ap kept_or_nothing (lookup-put_same cell_cmp cell_exact cell_cmp_total cells c k)

pub kept_other : (cells : Cells) (c q : Cell) (k : Kept) → is_eq (cell_cmp q c) ≡ false → kept_at (with_kept cells c k) q ≡ kept_at cells q
kept_other cells c q k off = ap kept_or_nothing (lookup-put_other cell_cmp cell_exact cell_cmp_total cells c q k off)

kept_with : (cells : Cells) (c q : Cell) (k : Kept) → kept_at (with_kept cells c k) q ≡ (if is_eq (cell_cmp q c) then k else kept_at cells q)
kept_with cells c q k = tested (cell_cmp q c) refl
  where
    tested : (o : Ordering) → cell_cmp q c ≡ o → kept_at (with_kept cells c k) q ≡ (if is_eq (cell_cmp q c) then k else kept_at cells q)
    tested Less h = rw h (kept_other cells c q k (ap is_eq h))
    tested Equal h = rw h (ap (λ (x : Cell). kept_at (with_kept cells c k) x) (cell_exact q c h) ∙ kept_same cells c k)
    tested Greater h = rw h (kept_other cells c q k (ap is_eq h))

-- the copy and the count of marks of a cell where what is kept of one cell was written
copy_with_written : (cells : Cells) (c q : Cell) (k : Kept) → contents_of (with_kept cells c k) q ≡ with_content (contents_of cells) c k.content q
copy_with_written cells c q k = ap (λ (w : Kept). w.content) (kept_with cells c q k) ∙ chosen (is_eq (cell_cmp q c))
  where
    chosen : (b : Bool) → (if b then k else kept_at cells q).content ≡ (if b then k.content else (kept_at cells q).content)
    chosen true = refl
    chosen false = refl

-- edits and births of contents that are the same
edits_same : (es : List (Cell × Edit)) (a b : Contents) → ((q : Cell) → a q ≡ b q) → (q : Cell) → after_edits a es q ≡ after_edits b es q
edits_same [] a b same q = same q
edits_same (e ∷ es) a b same q =
    edits_same es (with_content a e.0 (edited_if_present e.1 (a e.0))) (with_content b e.0 (edited_if_present e.1 (b e.0)))
    (λ c. chosen (is_eq (cell_cmp c e.0)) c) q
  where
    chosen : (t : Bool) (c : Cell) → (if t then edited_if_present e.1 (a e.0) else a c) ≡ (if t then edited_if_present e.1 (b e.0) else b c)
    chosen true c = ap (edited_if_present e.1) (same e.0)
    chosen false c = same c

births_same : (bs : List (Cell × Content)) (a b : Contents) → ((q : Cell) → a q ≡ b q) → (q : Cell) → after_births a bs q ≡ after_births b bs q
births_same [] a b same q = same q
births_same (e ∷ es) a b same q =
    births_same es (with_content a e.0 (born_if_absent e.1 (a e.0))) (with_content b e.0 (born_if_absent e.1 (b e.0)))
    (λ c. chosen (is_eq (cell_cmp c e.0)) c) q
  where
    chosen : (t : Bool) (c : Cell) → (if t then born_if_absent e.1 (a e.0) else a c) ≡ (if t then born_if_absent e.1 (b e.0) else b c)
    chosen true c = ap (born_if_absent e.1) (same e.0)
    chosen false c = same c

copies_after_edits : (es : List (Cell × Edit)) (cells : Cells) (change : ℕ) (q : Cell) → contents_of (with_edits cells change es) q ≡ after_edits (contents_of cells) es q
copies_after_edits [] cells change q = refl
copies_after_edits (e ∷ es) cells change q =
    let written : Cells = with_kept cells e.0 (edit_of (kept_at cells e.0) e.1 change) in
    copies_after_edits es written change q
    ∙ edits_same es (contents_of written) (with_content (contents_of cells) e.0 (edited_if_present e.1 (contents_of cells e.0)))
    (λ c. copy_with_written cells e.0 c (edit_of (kept_at cells e.0) e.1 change)) q

copies_after_births : (bs : List (Cell × Content)) (cells : Cells) (change : ℕ) (q : Cell) → contents_of (with_births cells change bs) q ≡ after_births (contents_of cells) bs q
copies_after_births [] cells change q = refl
copies_after_births (b ∷ bs) cells change q =
    let written : Cells = with_kept cells b.0 (birth_of (kept_at cells b.0) b.1 change) in
    copies_after_births bs written change q
    ∙ births_same bs (contents_of written) (with_content (contents_of cells) b.0 (born_if_absent b.1 (contents_of cells b.0)))
    (λ c. copy_with_written cells b.0 c (birth_of (kept_at cells b.0) b.1 change)) q

-- a part of what is kept of a cell that a write leaves stays through all of them
module _ {A : Type 0} (part : Kept → A) where
  pub part_with_written : (cells : Cells) (c q : Cell) (k : Kept) → part k ≡ part (kept_at cells c) → part (kept_at (with_kept cells c k) q) ≡ part (kept_at cells q)
  part_with_written cells c q k same = tested (cell_cmp q c) refl
    where
      tested : (o : Ordering) → cell_cmp q c ≡ o → part (kept_at (with_kept cells c k) q) ≡ part (kept_at cells q)
      tested Less h = ap part (kept_other cells c q k (ap is_eq h))
      tested Equal h =
          subst (λ (x : Cell). part (kept_at (with_kept cells c k) x) ≡ part (kept_at cells x)) (sym (cell_exact q c h))
          (ap part (kept_same cells c k) ∙ same)
      tested Greater h = ap part (kept_other cells c q k (ap is_eq h))

  pub part_after_edits : ((kept : Kept) (e : Edit) (change : ℕ) → part (edit_of kept e change) ≡ part kept)
      → (es : List (Cell × Edit)) (cells : Cells) (change : ℕ) (q : Cell) → part (kept_at (with_edits cells change es) q) ≡ part (kept_at cells q)
  part_after_edits stays [] cells change q = refl
  part_after_edits stays (e ∷ es) cells change q =
      part_after_edits stays es (with_kept cells e.0 (edit_of (kept_at cells e.0) e.1 change)) change q
      ∙ part_with_written cells e.0 q (edit_of (kept_at cells e.0) e.1 change) (stays (kept_at cells e.0) e.1 change)

  pub part_after_births : ((kept : Kept) (content : Content) (change : ℕ) → part (birth_of kept content change) ≡ part kept)
      → (bs : List (Cell × Content)) (cells : Cells) (change : ℕ) (q : Cell) → part (kept_at (with_births cells change bs) q) ≡ part (kept_at cells q)
  part_after_births stays [] cells change q = refl
  part_after_births stays (b ∷ bs) cells change q =
      part_after_births stays bs (with_kept cells b.0 (birth_of (kept_at cells b.0) b.1 change)) change q
      ∙ part_with_written cells b.0 q (birth_of (kept_at cells b.0) b.1 change) (stays (kept_at cells b.0) b.1 change)

-- the last change of a cell
last_with : (b : Bool) (new own : Kept) → (if b then new else own).last ≡ (if b then new.last else own.last)
last_with true new own = refl
last_with false new own = refl

last_step : (cells : Cells) (c q : Cell) (k : Kept) → (kept_at (with_kept cells c k) q).last ≡ (if is_eq (cell_cmp q c) then k.last else (kept_at cells q).last)
last_step cells c q k = ap (λ (w : Kept). w.last) (kept_with cells c q k) ∙ last_with (is_eq (cell_cmp q c)) k (kept_at cells q)

either : (a b : Bool) (change last : ℕ) → (if b then change else if a then change else last) ≡ (if a || b then change else last)
either true true change last = refl
either true false change last = refl
either false b change last = refl

last_after_edits : (es : List (Cell × Edit)) (cells : Cells) (change : ℕ) (q : Cell)
    → (kept_at (with_edits cells change es) q).last ≡ (if is_edited q es then change else (kept_at cells q).last)
last_after_edits [] cells change q = refl
last_after_edits (e ∷ es) cells change q =
    last_after_edits es (with_kept cells e.0 (edit_of (kept_at cells e.0) e.1 change)) change q
    ∙ ap (λ (n : ℕ). if is_edited q es then change else n) (last_step cells e.0 q (edit_of (kept_at cells e.0) e.1 change))
    ∙ either (is_eq (cell_cmp q e.0)) (is_edited q es) change (kept_at cells q).last

-- a birth sets the last change of a cell that was not there
birth_last : (bs : List (Cell × Content)) (cells : Cells) (change : ℕ) (q b : Cell) (content : Content) (t : Bool) → is_eq (cell_cmp q b) ≡ t
    → (if is_born q bs && is_none (kept_at (with_kept cells b (birth_of (kept_at cells b) content change)) q).content
    then change else (kept_at (with_kept cells b (birth_of (kept_at cells b) content change)) q).last)
    ≡ (if (t || is_born q bs) && is_none (kept_at cells q).content then change else (kept_at cells q).last)
birth_last bs cells change q b content false h = rw (kept_other cells b q (birth_of (kept_at cells b) content change) h) refl
birth_last bs cells change q b content true h = rw (eq_cells (cell_cmp q b) refl h) (rw (kept_same cells b (birth_of (kept_at cells b) content change)) (by_case (is_born b bs) (kept_at cells b)))
  where
    eq_cells : (o : Ordering) → cell_cmp q b ≡ o → is_eq (cell_cmp q b) ≡ true → q ≡ b
    eq_cells Less e h = absurd (true≢false (sym h ∙ ap is_eq e))
    eq_cells Equal e h = cell_exact q b e
    eq_cells Greater e h = absurd (true≢false (sym h ∙ ap is_eq e))

    by_parts : (more : Bool) (own : Option Content) (dirty : ℕ) (pending : List ℕ) (last : ℕ)
        → (if more && is_none (birth_of (record { content = own; dirty = dirty; pending = pending; last = last }) content change).content
        then change else (birth_of (record { content = own; dirty = dirty; pending = pending; last = last }) content change).last)
        ≡ (if (true || more) && is_none own then change else last)
    by_parts true None dirty pending last = refl
    by_parts false None dirty pending last = refl
    by_parts true (Some own) dirty pending last = refl
    by_parts false (Some own) dirty pending last = refl

    by_case : (more : Bool) (kept : Kept)
        → (if more && is_none (birth_of kept content change).content then change else (birth_of kept content change).last)
        ≡ (if (true || more) && is_none kept.content then change else kept.last)
    by_case more kept = by_parts more kept.content kept.dirty kept.pending kept.last

last_after_births : (bs : List (Cell × Content)) (cells : Cells) (change : ℕ) (q : Cell)
    → (kept_at (with_births cells change bs) q).last ≡ (if is_born q bs && is_none (kept_at cells q).content then change else (kept_at cells q).last)
last_after_births [] cells change q = refl
last_after_births (b ∷ bs) cells change q =
    last_after_births bs (with_kept cells b.0 (birth_of (kept_at cells b.0) b.1 change)) change q
    ∙ birth_last bs cells change q b.0 b.1 (is_eq (cell_cmp q b.0)) refl

-- whether a copy is there stays through edits
none_edited : (o : Option Content) (e : Edit) → is_none (edited_if_present e o) ≡ is_none o
none_edited None e = refl
none_edited (Some content) e = refl

both_last : (a b none : Bool) (change last : ℕ) → (if b && none then change else if a then change else last) ≡ (if a || (b && none) then change else last)
both_last a b none change last = either a (b && none) change last

pub ops_law : OpsChangeCopies
ops_law cells change op cell =
    let edited : Cells = with_edits cells change (edits (contents_of cells) op) in
    record {
      copy = (copies_after_births (births op) edited change cell
          ∙ births_same (births op) (contents_of edited) (after_edits (contents_of cells) (edits (contents_of cells) op))
          (copies_after_edits (edits (contents_of cells) op) cells change) cell);
      dirty = (part_after_births (λ k. k.dirty) (λ kept content n. refl) (births op) edited change cell
          ∙ part_after_edits (λ k. k.dirty) (λ kept e n. refl) (edits (contents_of cells) op) cells change cell);
      pending = (part_after_births (λ k. k.pending) (λ kept content n. refl) (births op) edited change cell
          ∙ part_after_edits (λ k. k.pending) (λ kept e n. refl) (edits (contents_of cells) op) cells change cell);
      last = (last_after_births (births op) edited change cell
          ∙ ap (λ (n : Bool). if is_born cell (births op) && n then change else (kept_at edited cell).last)
          (part_after_edits (λ k. is_none k.content) (λ kept e n. none_edited kept.content e) (edits (contents_of cells) op) cells change cell)
          ∙ ap (λ (n : ℕ). if is_born cell (births op) && is_none (contents_of cells cell) then change else n) (last_after_edits (edits (contents_of cells) op) cells change cell)
          ∙ both_last (is_edited cell (edits (contents_of cells) op)) (is_born cell (births op)) (is_none (contents_of cells cell)) change (kept_at cells cell).last);
    }
