-- Writes of what is kept of two cells, in either order: an edit before or after births, and edits of two cells.
use Rattle.std.proofs.Common.{◌≡◌, ◌∙◌, ℕ, Bool, true, false, true≢false, List, [], ◌∷◌, refl, ap, sym, subst}
use Rattle.std.specs.Prelude.{Option, Some, None, is_some}
use Rattle.std.specs.declared.cmp.Ordering.{Ordering}
use Rattle.std.specs.declared.cmp.Ordering.TheVariants.{Less, Equal, Greater}
use Rattle.std.specs.Ordering.{is_eq, match_ordering, ordering_reverse}
use Rattle.std.specs.BTreeMap.{insert_entry}
use Rattle.std.specs.Cmp.{IsTotalOrder}
use Rattle.std.proofs.lemmas.Cmp.{tied_itself}
use Rattle.fop_types.specs.Orders.{cell_cmp}
use Rattle.fop_types.specs.StoreOps.{Edit, edited_if_present}
use Rattle.fop_types.specs.declared.cells.Cell.{Cell}
use Rattle.fop_types.specs.declared.contents.Content.{Content}
use Rattle.fop_types.proofs.MapLemmas.{cell_exact, cell_cmp_total}
use Rattle.cell_store.specs.declared.kept.Kept.{Kept}
use Rattle.cell_store.specs.Cells.{Cells, kept_at, with_kept, contents_of, edit_of, birth_of, with_edits, with_births}
use Rattle.cell_store.proofs.Copies.{kept_same, kept_other}

module _ {K : Type 0} (R : K → K → Ordering) (o : IsTotalOrder R) where
  after : (k m : K) → R k m ≡ Less → R m k ≡ Greater
  after k m h = o.antisymm m k ∙ ap ordering_reverse h

  below : (k m e : K) → R k m ≡ Less → R m e ≡ Equal → R k e ≡ Less
  below k m e h same = o.antisymm k e ∙ ap ordering_reverse (sym (o.congr m e k same) ∙ after k m h)

module _ {K X : Type 0} (R : K → K → Ordering) (o : IsTotalOrder R) where
  -- of two values put in for one key the second stays
  pub put_twice : (es : List (K × X)) (k : K) (v w : X) → insert_entry R (insert_entry R es k v) k w ≡ insert_entry R es k w
  put_twice [] k v w = rw (tied_itself o k) refl
  put_twice (e ∷ es) k v w =
      elim (R k e.0) as (λ r. (R k e.0 ≡ r) → insert_entry R (match_ordering r ((k, v) ∷ e ∷ es) ((e.0, v) ∷ es) (e ∷ insert_entry R es k v)) k w
      ≡ match_ordering r ((k, w) ∷ e ∷ es) ((e.0, w) ∷ es) (e ∷ insert_entry R es k w)) [
        | Less ↦ λ h. rw (tied_itself o k) refl
        | Equal ↦ λ h. rw h refl
        | Greater ↦ λ h. rw h (ap (λ (l : List (K × X)). e ∷ l) (put_twice es k v w))
      ] refl

  past : (e : K × X) (es : List (K × X)) (k m : K) (v w : X) → R k m ≡ Less → R m e.0 ≡ Greater
      → insert_entry R (insert_entry R es k v) m w ≡ insert_entry R (insert_entry R es m w) k v
      → (r : Ordering) → R k e.0 ≡ r
      → insert_entry R (match_ordering r ((k, v) ∷ e ∷ es) ((e.0, v) ∷ es) (e ∷ insert_entry R es k v)) m w
      ≡ match_ordering r ((k, v) ∷ e ∷ insert_entry R es m w) ((e.0, v) ∷ insert_entry R es m w) (e ∷ insert_entry R (insert_entry R es m w) k v)
  past e es k m v w h late rest Less at = rw (after R o k m h) (rw late refl)
  past e es k m v w h late rest Equal at = rw late refl
  past e es k m v w h late rest Greater at = rw late (ap (λ (l : List (K × X)). e ∷ l) rest)

  by_place : (e : K × X) (es : List (K × X)) (k m : K) (v w : X) → R k m ≡ Less
      → insert_entry R (insert_entry R es k v) m w ≡ insert_entry R (insert_entry R es m w) k v
      → (r : Ordering) → R m e.0 ≡ r
      → insert_entry R (insert_entry R (e ∷ es) k v) m w ≡ insert_entry R (match_ordering r ((m, w) ∷ e ∷ es) ((e.0, w) ∷ es) (e ∷ insert_entry R es m w)) k v
  by_place e es k m v w h rest Less at = rw (o.trans k m e.0 h at) (rw (after R o k m h) (rw at (rw h refl)))
  by_place e es k m v w h rest Equal at = rw (below R o k m e.0 h at) (rw (after R o k m h) (rw at refl))
  by_place e es k m v w h rest Greater at = past e es k m v w h at rest (R k e.0) refl

  lower_first : (es : List (K × X)) (k m : K) (v w : X) → R k m ≡ Less → insert_entry R (insert_entry R es k v) m w ≡ insert_entry R (insert_entry R es m w) k v
  lower_first [] k m v w h = rw (after R o k m h) (rw h refl)
  lower_first (e ∷ es) k m v w h = by_place e es k m v w h (lower_first es k m v w h) (R m e.0) refl

  -- values put in for two keys, in either order
  pub put_apart : (es : List (K × X)) (k m : K) (v w : X) → is_eq (R k m) ≡ false → insert_entry R (insert_entry R es k v) m w ≡ insert_entry R (insert_entry R es m w) k v
  put_apart es k m v w differ = tested (R k m) refl
    where
      tested : (r : Ordering) → R k m ≡ r → insert_entry R (insert_entry R es k v) m w ≡ insert_entry R (insert_entry R es m w) k v
      tested Less h = lower_first es k m v w h
      tested Equal h = absurd (true≢false (sym (ap is_eq h) ∙ differ))
      tested Greater h = sym (lower_first es m k w v (o.antisymm m k ∙ ap ordering_reverse h))

-- ---- what is kept of cells

pub kept_twice : (cells : Cells) (c : Cell) (k l : Kept) → with_kept (with_kept cells c k) c l ≡ with_kept cells c l
kept_twice cells c k l = put_twice cell_cmp cell_cmp_total cells c k l

pub kept_apart : (cells : Cells) (c b : Cell) (k l : Kept) → is_eq (cell_cmp c b) ≡ false → with_kept (with_kept cells c k) b l ≡ with_kept (with_kept cells b l) c k
kept_apart cells c b k l differ = put_apart cell_cmp cell_cmp_total cells c b k l differ

equal_cells : (c b : Cell) → is_eq (cell_cmp c b) ≡ true → c ≡ b
equal_cells c b same = tested (cell_cmp c b) refl
  where
    tested : (r : Ordering) → cell_cmp c b ≡ r → c ≡ b
    tested Less h = absurd (true≢false (sym same ∙ ap is_eq h))
    tested Equal h = cell_exact c b h
    tested Greater h = absurd (true≢false (sym same ∙ ap is_eq h))

differ_back : (c b : Cell) → is_eq (cell_cmp c b) ≡ false → is_eq (cell_cmp b c) ≡ false
differ_back c b differ = tested (cell_cmp c b) refl
  where
    tested : (r : Ordering) → cell_cmp c b ≡ r → is_eq (cell_cmp b c) ≡ false
    tested Less h = ap is_eq (cell_cmp_total.antisymm b c ∙ ap ordering_reverse h)
    tested Equal h = absurd (true≢false (sym (ap is_eq h) ∙ differ))
    tested Greater h = ap is_eq (cell_cmp_total.antisymm b c ∙ ap ordering_reverse h)

-- two changes of what is kept, each of its own cell, in either order
pub changes_apart : (cells : Cells) (c b : Cell) (f g : Kept → Kept) → is_eq (cell_cmp c b) ≡ false
    → with_kept (with_kept cells c (f (kept_at cells c))) b (g (kept_at (with_kept cells c (f (kept_at cells c))) b))
    ≡ with_kept (with_kept cells b (g (kept_at cells b))) c (f (kept_at (with_kept cells b (g (kept_at cells b))) c))
changes_apart cells c b f g differ =
    let k : Kept = f (kept_at cells c) in
    let l : Kept = g (kept_at cells b) in
    ap (λ (x : Kept). with_kept (with_kept cells c k) b (g x)) (kept_other cells c b k (differ_back c b differ))
    ∙ kept_apart cells c b k l differ
    ∙ ap (λ (x : Kept). with_kept (with_kept cells b l) c (f x)) (sym (kept_other cells b c l differ))

-- an edit of a cell that is present, before or after a birth
birth_stays : (kept : Kept) (content : Content) (change : ℕ) → is_some kept.content ≡ true → birth_of kept content change ≡ kept
birth_stays kept content change there = by_case kept.content kept.dirty kept.pending kept.last there
  where
    by_case : (own : Option Content) (dirty : ℕ) (pending : List ℕ) (last : ℕ) → is_some own ≡ true
        → birth_of (record { content = own; dirty = dirty; pending = pending; last = last }) content change ≡ record { content = own; dirty = dirty; pending = pending; last = last }
    by_case None dirty pending last h = absurd cc
    by_case (Some own) dirty pending last h = refl

still_there : (o : Option Content) (e : Edit) → is_some (edited_if_present e o) ≡ is_some o
still_there None e = refl
still_there (Some content) e = refl

swap : (cells : Cells) (c b : Cell) (e : Edit) (content : Content) (change : ℕ) → is_some (kept_at cells c).content ≡ true
    → with_kept (with_kept cells b (birth_of (kept_at cells b) content change)) c (edit_of (kept_at (with_kept cells b (birth_of (kept_at cells b) content change)) c) e change)
    ≡ with_kept (with_kept cells c (edit_of (kept_at cells c) e change)) b (birth_of (kept_at (with_kept cells c (edit_of (kept_at cells c) e change)) b) content change)
swap cells c b e content change there = tested (is_eq (cell_cmp b c)) refl
  where
    by_birth : Kept → Kept
    by_birth k = birth_of k content change

    by_edit : Kept → Kept
    by_edit k = edit_of k e change

    tested : (r : Bool) → is_eq (cell_cmp b c) ≡ r
        → with_kept (with_kept cells b (by_birth (kept_at cells b))) c (by_edit (kept_at (with_kept cells b (by_birth (kept_at cells b))) c))
        ≡ with_kept (with_kept cells c (by_edit (kept_at cells c))) b (by_birth (kept_at (with_kept cells c (by_edit (kept_at cells c))) b))
    tested false differ = changes_apart cells b c by_birth by_edit differ
    tested true same = subst (λ (x : Cell). with_kept (with_kept cells x (by_birth (kept_at cells x))) c (by_edit (kept_at (with_kept cells x (by_birth (kept_at cells x))) c))
        ≡ with_kept (with_kept cells c (by_edit (kept_at cells c))) x (by_birth (kept_at (with_kept cells c (by_edit (kept_at cells c))) x))) (sym (equal_cells b c same)) here
      where
        here : with_kept (with_kept cells c (by_birth (kept_at cells c))) c (by_edit (kept_at (with_kept cells c (by_birth (kept_at cells c))) c))
            ≡ with_kept (with_kept cells c (by_edit (kept_at cells c))) c (by_birth (kept_at (with_kept cells c (by_edit (kept_at cells c))) c))
        here =
            let k : Kept = kept_at cells c in
            kept_twice cells c (by_birth k) (by_edit (kept_at (with_kept cells c (by_birth k)) c))
            ∙ ap (λ (x : Kept). with_kept cells c (by_edit x)) (kept_same cells c (by_birth k) ∙ birth_stays k content change there)
            ∙ ap (λ (x : Kept). with_kept cells c x) (sym (birth_stays (by_edit k) content change (still_there k.content e ∙ there)))
            ∙ ap (λ (x : Kept). with_kept cells c (by_birth x)) (sym (kept_same cells c (by_edit k)))
            ∙ sym (kept_twice cells c (by_edit k) (by_birth (kept_at (with_kept cells c (by_edit k)) c)))

-- a cell that is present stays so through births
born_there : (cells : Cells) (c b : Cell) (content : Content) (change : ℕ) → is_some (kept_at cells c).content ≡ true
    → is_some (kept_at (with_kept cells b (birth_of (kept_at cells b) content change)) c).content ≡ true
born_there cells c b content change there = tested (is_eq (cell_cmp c b)) refl
  where
    tested : (r : Bool) → is_eq (cell_cmp c b) ≡ r → is_some (kept_at (with_kept cells b (birth_of (kept_at cells b) content change)) c).content ≡ true
    tested false differ = ap (λ (k : Kept). is_some k.content) (kept_other cells b c (birth_of (kept_at cells b) content change) differ) ∙ there
    tested true same =
        let at : is_some (kept_at cells b).content ≡ true = subst (λ (x : Cell). is_some (kept_at cells x).content ≡ true) (equal_cells c b same) there in
        subst (λ (x : Cell). is_some (kept_at (with_kept cells b (birth_of (kept_at cells b) content change)) x).content ≡ true) (sym (equal_cells c b same))
        (ap (λ (k : Kept). is_some k.content) (kept_same cells b (birth_of (kept_at cells b) content change) ∙ birth_stays (kept_at cells b) content change at) ∙ at)

pub births_keep : (bs : List (Cell × Content)) (cells : Cells) (c : Cell) (change : ℕ) → is_some (contents_of cells c) ≡ true → is_some (contents_of (with_births cells change bs) c) ≡ true
births_keep [] cells c change there = there
births_keep (b ∷ bs) cells c change there =
    births_keep bs (with_kept cells b.0 (birth_of (kept_at cells b.0) b.1 change)) c change (born_there cells c b.0 b.1 change there)

pub edit_after_births : (bs : List (Cell × Content)) (cells : Cells) (c : Cell) (e : Edit) (change : ℕ) → is_some (contents_of cells c) ≡ true
    → with_kept (with_births cells change bs) c (edit_of (kept_at (with_births cells change bs) c) e change) ≡ with_births (with_edits cells change ((c, e) ∷ [])) change bs
edit_after_births [] cells c e change there = refl
edit_after_births (b ∷ bs) cells c e change there =
    edit_after_births bs (with_kept cells b.0 (birth_of (kept_at cells b.0) b.1 change)) c e change (born_there cells c b.0 b.1 change there)
    ∙ ap (λ (l : Cells). with_births l change bs) (swap cells c b.0 e b.1 change there)
