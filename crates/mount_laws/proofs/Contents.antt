-- What an op and a birth leave of the cells that they do not alter.
use Rattle.std.proofs.Common.{◌≡◌, ◌∙◌, inl, inr, Bool, true, false, refl, sym, ap, subst, List, [], ◌∷◌, Option, Some, None, if◌then◌else◌}
use Rattle.std.specs.Prelude.{◌||◌}
use Rattle.std.specs.Ordering.{match_ordering}
use Rattle.std.specs.declared.cmp.Ordering.{Ordering}
use Rattle.std.specs.declared.cmp.Ordering.TheVariants.{Less, Equal, Greater}
use Rattle.afr_machine.specs.Touching.{is_cell, has_cell}
use Rattle.fop_types.proofs.MapLemmas.{gfid_exact}
use Rattle.fop_types.specs.Bounds.{Each}
use Rattle.fop_types.specs.Cells.{data_cell, meta_cell, names_cell}
use Rattle.fop_types.specs.Orders.{gfid_cmp}
use Rattle.fop_types.specs.StoreOps.{Contents, Edit, needs, both_names, born, births, item_in, edits, moved_in, with_content, edited_if_present, after_edits, born_if_absent, after_births, fits, contents_after}
use Rattle.fop_types.specs.declared.cells.Cell.{Cell}
use Rattle.fop_types.specs.declared.cells.Gfid.{Gfid}
use Rattle.fop_types.specs.declared.cells.Kind.{Kind}
use Rattle.fop_types.specs.declared.cells.Kind.TheVariants as kind
use Rattle.fop_types.specs.declared.contents.Content.{Content}
use Rattle.fop_types.specs.declared.contents.Item.{Item}
use Rattle.fop_types.specs.declared.store_ops.StoreOp.{StoreOp}
use Rattle.fop_types.specs.declared.store_ops.StoreOp.TheVariants as op
use Rattle.mount_laws.specs.Settling.{HasNoNames, StaysOrBorn}
use Rattle.mount_laws.specs.Steps.{applied}
use Rattle.mount_laws.proofs.Sharing.{cells_are, is_cell_refl}

-- ---- edits

-- the edits are of cells of the list
abbrev AreOf : List Cell → List (Cell × Edit) → Type 0
AreOf cells es = Each (λ (e : Cell × Edit). has_cell cells e.0 ≡ true) es

first_has : (cell : Cell) (cells : List Cell) → has_cell (cell ∷ cells) cell ≡ true
first_has cell cells = ap (λ b. b || has_cell cells cell) (is_cell_refl cell)

both_first : (a b : Gfid) → has_cell (both_names a b) (names_cell a) ≡ true
both_first a b = by_order (gfid_cmp a b)
  where
    later : (x : Bool) → has_cell (names_cell a ∷ []) (names_cell a) ≡ true → (x || has_cell (names_cell a ∷ []) (names_cell a)) ≡ true
    later true h = refl
    later false h = h

    by_order : (o : Ordering) → has_cell (match_ordering o (names_cell a ∷ names_cell b ∷ []) (names_cell a ∷ []) (names_cell b ∷ names_cell a ∷ [])) (names_cell a) ≡ true
    by_order Less = first_has (names_cell a) (names_cell b ∷ [])
    by_order Equal = first_has (names_cell a) []
    by_order Greater = later (is_cell (names_cell a) (names_cell b)) (first_has (names_cell a) [])

both_second : (a b : Gfid) → has_cell (both_names a b) (names_cell b) ≡ true
both_second a b = by_order (gfid_cmp a b) refl
  where
    later : (x : Bool) → has_cell (names_cell b ∷ []) (names_cell b) ≡ true → (x || has_cell (names_cell b ∷ []) (names_cell b)) ≡ true
    later true h = refl
    later false h = h

    by_order : (o : Ordering) → gfid_cmp a b ≡ o → has_cell (match_ordering o (names_cell a ∷ names_cell b ∷ []) (names_cell a ∷ []) (names_cell b ∷ names_cell a ∷ [])) (names_cell b) ≡ true
    by_order Less e = later (is_cell (names_cell b) (names_cell a)) (first_has (names_cell b) [])
    by_order Equal e = subst (λ (g : Gfid). has_cell (names_cell g ∷ []) (names_cell b) ≡ true) (sym (gfid_exact a b e)) (first_has (names_cell b) [])
    by_order Greater e = first_has (names_cell b) (names_cell a ∷ [])

pub edits_are_of : (contents : Contents) (o : StoreOp) → AreOf (needs o) (edits contents o)
edits_are_of contents (op.Write gfid offset bytes) = (first_has (data_cell gfid) [], tt)
edits_are_of contents (op.Truncate gfid size) = (first_has (data_cell gfid) [], tt)
edits_are_of contents (op.SetMode gfid mode) = (first_has (meta_cell gfid) [], tt)
edits_are_of contents (op.SetAttr gfid attr) = (first_has (meta_cell gfid) [], tt)
edits_are_of contents (op.DelAttr gfid name) = (first_has (meta_cell gfid) [], tt)
edits_are_of contents (op.AddName parent item mode span) = (first_has (names_cell parent) [], tt)
edits_are_of contents (op.DropName parent name) = (first_has (names_cell parent) [], tt)
edits_are_of contents (op.DropDir parent name gfid) = (both_first parent gfid, (both_second parent gfid, tt))
edits_are_of contents (op.Move parent name target new_name) = (both_first parent target, moved (item_in contents parent name))
  where
    moved : (item : Option Item) → AreOf (both_names parent target) (moved_in item target new_name)
    moved None = tt
    moved (Some item) = (both_second parent target, tt)
edits_are_of contents (op.MakeCopy gfid span) = tt

pub edits_leave : (cells : List Cell) (cell : Cell) → has_cell cells cell ≡ false → (es : List (Cell × Edit)) (contents : Contents) → AreOf cells es → after_edits contents es cell ≡ contents cell
edits_leave cells cell none [] contents of = refl
edits_leave cells cell none (e ∷ es) contents of =
    edits_leave cells cell none es (with_content contents e.0 (edited_if_present e.1 (contents e.0))) of.1 ∙ by_case (is_cell cell e.0) refl
  where
    by_case : (b : Bool) → is_cell cell e.0 ≡ b → (if b then edited_if_present e.1 (contents e.0) else contents cell) ≡ contents cell
    by_case true same = let clash : true ≡ false = sym of.0 ∙ subst (λ (c : Cell). has_cell cells c ≡ false) (cells_are cell e.0 same) none in absurd cc
    by_case false other = refl

-- ---- births

-- the contents that births give have no names
abbrev pub HaveNoNames : List (Cell × Content) → Type 0
HaveNoNames bs = Each (λ (b : Cell × Content). HasNoNames (Some b.1)) bs

pub births_have_none : (o : StoreOp) → HaveNoNames (births o)
births_have_none (op.Write gfid offset bytes) = tt
births_have_none (op.Truncate gfid size) = tt
births_have_none (op.SetMode gfid mode) = tt
births_have_none (op.SetAttr gfid attr) = tt
births_have_none (op.DelAttr gfid name) = tt
births_have_none (op.AddName parent item mode span) = of_kind item.kind
  where
    of_kind : (k : Kind) → HaveNoNames (born k item.gfid mode span)
    of_kind kind.File = (record { none = refl; kept = refl }, (record { none = refl; kept = refl }, tt))
    of_kind kind.Dir = (record { none = refl; kept = refl }, (record { none = refl; kept = refl }, tt))
    of_kind kind.Link = tt
births_have_none (op.DropName parent name) = tt
births_have_none (op.DropDir parent name gfid) = tt
births_have_none (op.Move parent name target new_name) = tt
births_have_none (op.MakeCopy gfid span) = (record { none = refl; kept = refl }, (record { none = refl; kept = refl }, tt))

stays_then : (a b c : Option Content) → StaysOrBorn a b → StaysOrBorn b c → StaysOrBorn a c
stays_then a b c (inl e) (inl f) = inl (f ∙ e)
stays_then a b c (inl e) (inr g) = inr (sym e ∙ g.0, g.1)
stays_then a b c (inr g) (inl f) = inr (g.0, subst HasNoNames (sym f) g.1)
stays_then a b c (inr g) (inr h) = inr (g.0, h.1)

pub births_leave : (bs : List (Cell × Content)) (contents : Contents) (cell : Cell) → HaveNoNames bs → StaysOrBorn (contents cell) (after_births contents bs cell)
births_leave [] contents cell h = inl refl
births_leave (b ∷ bs) contents cell h =
    stays_then (contents cell) (with_content contents b.0 (born_if_absent b.1 (contents b.0)) cell) (after_births (with_content contents b.0 (born_if_absent b.1 (contents b.0))) bs cell)
    (by_case (is_cell cell b.0) refl) (births_leave bs (with_content contents b.0 (born_if_absent b.1 (contents b.0))) cell h.1)
  where
    one : (old : Option Content) → StaysOrBorn old (born_if_absent b.1 old)
    one None = inr (refl, h.0)
    one (Some there) = inl refl

    by_case : (k : Bool) → is_cell cell b.0 ≡ k → StaysOrBorn (contents cell) (if k then born_if_absent b.1 (contents b.0) else contents cell)
    by_case true same = subst (λ (c : Cell). StaysOrBorn (contents c) (born_if_absent b.1 (contents b.0))) (sym (cells_are cell b.0 same)) (one (contents b.0))
    by_case false other = inl refl

-- ---- what is absent was absent

edits_none : (cell : Cell) (es : List (Cell × Edit)) (contents : Contents) → after_edits contents es cell ≡ None → contents cell ≡ None
edits_none cell [] contents h = h
edits_none cell (e ∷ es) contents h = by_case (is_cell cell e.0) refl (edits_none cell es (with_content contents e.0 (edited_if_present e.1 (contents e.0))) h)
  where
    one : (old : Option Content) → edited_if_present e.1 old ≡ None → old ≡ None
    one None k = refl
    one (Some content) k = absurd cc

    by_case : (b : Bool) → is_cell cell e.0 ≡ b → (if b then edited_if_present e.1 (contents e.0) else contents cell) ≡ None → contents cell ≡ None
    by_case true same k = subst (λ (c : Cell). contents c ≡ None) (sym (cells_are cell e.0 same)) (one (contents e.0) k)
    by_case false other k = k

pub births_none : (cell : Cell) (bs : List (Cell × Content)) (contents : Contents) → after_births contents bs cell ≡ None → contents cell ≡ None
births_none cell [] contents h = h
births_none cell (b ∷ bs) contents h = by_case (is_cell cell b.0) (births_none cell bs (with_content contents b.0 (born_if_absent b.1 (contents b.0))) h)
  where
    one : (old : Option Content) → born_if_absent b.1 old ≡ None → contents cell ≡ None
    one None k = absurd cc
    one (Some content) k = absurd cc

    by_case : (x : Bool) → (if x then born_if_absent b.1 (contents b.0) else contents cell) ≡ None → contents cell ≡ None
    by_case true k = one (contents b.0) k
    by_case false k = k

op_none : (contents : Contents) (o : StoreOp) (cell : Cell) → contents_after contents o cell ≡ None → contents cell ≡ None
op_none contents o cell h = edits_none cell (edits contents o) contents (births_none cell (births o) (after_edits contents (edits contents o)) h)

-- ---- both

op_leaves : (contents : Contents) (o : StoreOp) (cell : Cell) → has_cell (needs o) cell ≡ false → StaysOrBorn (contents cell) (contents_after contents o cell)
op_leaves contents o cell none =
    stays_then (contents cell) (after_edits contents (edits contents o) cell) (contents_after contents o cell)
    (inl (edits_leave (needs o) cell none (edits contents o) contents (edits_are_of contents o)))
    (births_leave (births o) (after_edits contents (edits contents o)) cell (births_have_none o))

-- a cell without names has none after it stayed or was born
pub stays_nameless : (old new : Option Content) → StaysOrBorn old new → HasNoNames old → HasNoNames new
stays_nameless old new (inl e) h = subst HasNoNames (sym e) h
stays_nameless old new (inr g) h = g.1

-- ---- an op that is applied where it fits

pub applied_leaves : (contents : Contents) (o : StoreOp) (cell : Cell) → has_cell (needs o) cell ≡ false → StaysOrBorn (contents cell) (applied contents o cell)
applied_leaves contents o cell none = by_case (fits contents o)
  where
    by_case : (b : Bool) → StaysOrBorn (contents cell) ((if b then contents_after contents o else contents) cell)
    by_case true = op_leaves contents o cell none
    by_case false = inl refl

pub applied_none : (contents : Contents) (o : StoreOp) (cell : Cell) → applied contents o cell ≡ None → contents cell ≡ None
applied_none contents o cell h = by_case (fits contents o) h
  where
    by_case : (b : Bool) → (if b then contents_after contents o else contents) cell ≡ None → contents cell ≡ None
    by_case true k = op_none contents o cell k
    by_case false k = k
