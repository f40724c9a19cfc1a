-- What an op leaves on its set: contents of cells that it does not need, names that it does not touch, objects to which it
-- gives no birth.
use Rattle.std.proofs.Common.{◌≡◌, ◌≢◌, ◌⊎◌, inl, inr, ◌∙◌, ℕ, Bool, true, false, not, ◌&&◌, ◌||◌, List, [], ◌∷◌, Option, Some, None, if◌then◌else◌, refl, ap, sym, subst}
use Rattle.std.specs.Cmp.Lexicographic.{slice_cmp}
use Rattle.std.specs.Ordering.{is_eq, match_ordering, nat_cmp}
use Rattle.std.specs.Prelude.{is_none}
use Rattle.std.specs.declared.cmp.Ordering.{Ordering}
use Rattle.std.specs.declared.cmp.Ordering.TheVariants.{Less, Equal, Greater}
use Rattle.fop_types.proofs.MapLemmas.{gfid_exact}
use Rattle.fop_types.specs.Bounds.{Each}
use Rattle.fop_types.specs.Cells.{data_cell, meta_cell, names_cell}
use Rattle.fop_types.specs.Names.{item_named, with_item, without_item, is_link, has_real_name, attr_named, renamed, is_same_name}
use Rattle.fop_types.specs.Orders.{gfid_cmp, cell_cmp}
use Rattle.fop_types.specs.StoreOps.{Contents, Edit, needs, both_names, born, births, is_unfit, is_removed, is_taken, is_that_directory, is_directory_item, item_in, items_of, attrs_of, holds, are_present, fits, edits, moved_in, with_content, edited, edited_if_present, after_edits, born_if_absent, after_births, contents_after}
use Rattle.fop_types.specs.StoreOps.Edit.{PutBytes, Resize, PutMode, PutAttr, DropAttr, PutItem, DropItem, MarkRemoved}
use Rattle.fop_types.specs.declared.cells.Aspect.{Aspect}
use Rattle.fop_types.specs.declared.cells.Aspect.TheVariants as aspect
use Rattle.fop_types.specs.declared.cells.Cell.{Cell}
use Rattle.fop_types.specs.declared.cells.Gfid.{Gfid}
use Rattle.fop_types.specs.declared.cells.Kind.{Kind}
use Rattle.fop_types.specs.declared.cells.Kind.TheVariants as kind
use Rattle.fop_types.specs.declared.contents.Attr.{Attr}
use Rattle.fop_types.specs.declared.contents.Content.{Content}
use Rattle.fop_types.specs.declared.contents.Content.TheVariants.{Bytes, Meta, Names}
use Rattle.fop_types.specs.declared.contents.Item.{Item}
use Rattle.fop_types.specs.declared.contents.Span.{Span}
use Rattle.fop_types.specs.declared.store_ops.StoreOp.{StoreOp}
use Rattle.fop_types.specs.declared.store_ops.StoreOp.TheVariants as op
use Rattle.mount_files.proofs.Cells.{content_off}
use Rattle.mount_files.proofs.Ops.{fit_parts, first_present, cell_is}
use Rattle.mount_files.proofs.Rises.{same, same_is, same_self, IsRising, first_above, rest_rises, above_none}
use Rattle.mount_files.specs.Pairs.{Needs, BirthsOf, Bears, Removes}

-- ---- cells that are needed

pub both_first : (a b : Gfid) → Needs (both_names a b) (names_cell a)
both_first a b = by_order (gfid_cmp a b)
  where
    by_order : (r : Ordering) → Needs (match_ordering r (names_cell a ∷ names_cell b ∷ []) (names_cell a ∷ []) (names_cell b ∷ names_cell a ∷ [])) (names_cell a)
    by_order Less = inl refl
    by_order Equal = inl refl
    by_order Greater = inr (inl refl)

pub both_second : (a b : Gfid) → Needs (both_names a b) (names_cell b)
both_second a b = by_order (gfid_cmp a b) refl
  where
    by_order : (r : Ordering) → gfid_cmp a b ≡ r → Needs (match_ordering r (names_cell a ∷ names_cell b ∷ []) (names_cell a ∷ []) (names_cell b ∷ names_cell a ∷ [])) (names_cell b)
    by_order Less e = inr (inl refl)
    by_order Equal e = inl (ap names_cell (gfid_exact a b e))
    by_order Greater e = inl refl

abbrev pub AreOf : List Cell → List (Cell × Edit) → Type 0
AreOf cells es = Each (λ (e : Cell × Edit). Needs cells e.0) es

pub edits_are_of : (contents : Contents) (o : StoreOp) → AreOf (needs o) (edits contents o)
edits_are_of contents (op.Write g offset bytes) = (inl refl, tt)
edits_are_of contents (op.Truncate g size) = (inl refl, tt)
edits_are_of contents (op.SetMode g mode) = (inl refl, tt)
edits_are_of contents (op.SetAttr g attr) = (inl refl, tt)
edits_are_of contents (op.DelAttr g name) = (inl refl, tt)
edits_are_of contents (op.AddName parent item mode span) = (inl refl, tt)
edits_are_of contents (op.DropName parent name) = (inl refl, tt)
edits_are_of contents (op.DropDir parent name g) = (both_first parent g, (both_second parent g, tt))
edits_are_of contents (op.Move parent name target new_name) = (both_first parent target, moved (item_in contents parent name))
  where
    moved : (item : Option Item) → AreOf (both_names parent target) (moved_in item target new_name)
    moved None = tt
    moved (Some item) = (both_second parent target, tt)
edits_are_of contents (op.MakeCopy g span) = tt

edits_leave : (cells : List Cell) (cell : Cell) → (Needs cells cell → ⊥) → (es : List (Cell × Edit)) (contents : Contents) → AreOf cells es → after_edits contents es cell ≡ contents cell
edits_leave cells cell off [] contents of = refl
edits_leave cells cell off (e ∷ es) contents of =
    edits_leave cells cell off es (with_content contents e.0 (edited_if_present e.1 (contents e.0))) of.1
    ∙ content_off contents e.0 cell (edited_if_present e.1 (contents e.0)) (λ f. off (subst (λ (c : Cell). Needs cells c) (sym f) of.0))

births_leave : (bs : List (Cell × Content)) (contents : Contents) (cell : Cell) (x : Content) → contents cell ≡ Some x → after_births contents bs cell ≡ Some x
births_leave [] contents cell x e = e
births_leave (b ∷ bs) contents cell x e = births_leave bs (with_content contents b.0 (born_if_absent b.1 (contents b.0))) cell x (by_case (is_eq (cell_cmp cell b.0)) refl)
  where
    by_case : (k : Bool) → is_eq (cell_cmp cell b.0) ≡ k → (if k then born_if_absent b.1 (contents b.0) else contents cell) ≡ Some x
    by_case true f = ap (λ (c : Option Content). born_if_absent b.1 c) (subst (λ (c : Cell). contents c ≡ Some x) (cell_is cell b.0 f) e)
    by_case false f = e

-- a content that is there and that the op does not need stays
pub op_leaves : (contents : Contents) (o : StoreOp) (cell : Cell) (x : Content) → (Needs (needs o) cell → ⊥) → contents cell ≡ Some x → contents_after contents o cell ≡ Some x
op_leaves contents o cell x off e = births_leave (births o) (after_edits contents (edits contents o)) cell x (edits_leave (needs o) cell off (edits contents o) contents (edits_are_of contents o) ∙ e)

-- ---- absent cells of an object to which the op gives no birth

edits_absent : (es : List (Cell × Edit)) (contents : Contents) (cell : Cell) → contents cell ≡ None → after_edits contents es cell ≡ None
edits_absent [] contents cell e = e
edits_absent (one ∷ es) contents cell e = edits_absent es (with_content contents one.0 (edited_if_present one.1 (contents one.0))) cell (by_case (is_eq (cell_cmp cell one.0)) refl)
  where
    by_case : (k : Bool) → is_eq (cell_cmp cell one.0) ≡ k → (if k then edited_if_present one.1 (contents one.0) else contents cell) ≡ None
    by_case true f = ap (λ (c : Option Content). edited_if_present one.1 c) (subst (λ (c : Cell). contents c ≡ None) (cell_is cell one.0 f) e)
    by_case false f = e

births_absent : (bs : List (Cell × Content)) (contents : Contents) (cell : Cell) → (BirthsOf bs cell.gfid → ⊥) → contents cell ≡ None → after_births contents bs cell ≡ None
births_absent [] contents cell off e = e
births_absent (b ∷ bs) contents cell off e =
    births_absent bs (with_content contents b.0 (born_if_absent b.1 (contents b.0))) cell (λ f. off (inr f))
    (content_off contents b.0 cell (born_if_absent b.1 (contents b.0)) (λ f. off (inl (sym (ap (λ (c : Cell). c.gfid) f)))) ∙ e)

pub op_absent : (contents : Contents) (o : StoreOp) (cell : Cell) → (Bears o cell.gfid → ⊥) → contents cell ≡ None → contents_after contents o cell ≡ None
op_absent contents o cell off e = births_absent (births o) (after_edits contents (edits contents o)) cell off (edits_absent (edits contents o) contents cell e)

-- ---- an op fits by the cells that it needs

present_again : (cells : List Cell) (a b : Contents) → ((cell : Cell) → Needs cells cell → b cell ≡ a cell) → are_present a cells ≡ true → are_present b cells ≡ true
present_again [] a b same e = refl
present_again (cell ∷ cells) a b same e =
    let p = first_present a cell cells e in
    ap (λ (x : Bool). if x then are_present b cells else false) (ap (λ (c : Option Content). holds cell.aspect c) (same cell (inl refl)) ∙ p.0)
    ∙ present_again cells a b (λ one n. same one (inr n)) p.1

unfit_again : (o : StoreOp) (a b : Contents) → ((cell : Cell) → Needs (needs o) cell → b cell ≡ a cell) → is_unfit b o ≡ is_unfit a o
unfit_again (op.Write g offset bytes) a b same = refl
unfit_again (op.Truncate g size) a b same = refl
unfit_again (op.SetMode g mode) a b same = refl
unfit_again (op.SetAttr g attr) a b same = refl
unfit_again (op.DelAttr g name) a b same = ap (λ (c : Option Content). is_none (attr_named (attrs_of c) name)) (same (meta_cell g) (inl refl))
unfit_again (op.AddName parent item mode span) a b same = ap (λ (c : Option Content). is_removed c || is_taken (item_named (items_of c) item.name)) (same (names_cell parent) (inl refl))
unfit_again (op.DropName parent name) a b same = ap (λ (c : Option Content). is_none (item_named (items_of c) name)) (same (names_cell parent) (inl refl))
unfit_again (op.DropDir parent name g) a b same =
    ap (λ (c : Option Content). not (is_that_directory (item_named (items_of c) name) g) || has_real_name (items_of (b (names_cell g)))) (same (names_cell parent) (both_first parent g))
    ∙ ap (λ (c : Option Content). not (is_that_directory (item_in a parent name) g) || has_real_name (items_of c)) (same (names_cell g) (both_second parent g))
unfit_again (op.Move parent name target new_name) a b same =
    ap (λ (c : Option Content). (is_none (item_named (items_of c) name) || is_removed (b (names_cell target))) || (is_directory_item (item_in b target new_name) || is_same_name parent name target new_name)) (same (names_cell parent) (both_first parent target))
    ∙ ap (λ (c : Option Content). (is_none (item_in a parent name) || is_removed c) || (is_directory_item (item_named (items_of c) new_name) || is_same_name parent name target new_name)) (same (names_cell target) (both_second parent target))
unfit_again (op.MakeCopy g span) a b same = refl

pub fits_again : (o : StoreOp) (a b : Contents) → ((cell : Cell) → Needs (needs o) cell → b cell ≡ a cell) → fits a o ≡ true → fits b o ≡ true
fits_again o a b same e =
    let p = fit_parts a o e in
    both (are_present b (needs o)) (is_unfit b o) (present_again (needs o) a b same p.0) (unfit_again o a b same ∙ p.1)
  where
    both : (x y : Bool) → x ≡ true → y ≡ false → (x && not y) ≡ true
    both x y f g = ap (λ (z : Bool). z && not y) f ∙ ap not g

-- a cell that an op needs is there
pub record IsPresent (content : Option Content) : Type 0 where
  pub there : Content
  pub content_is : content ≡ Some there

pub needed_present : (cells : List Cell) (contents : Contents) (cell : Cell) → are_present contents cells ≡ true → Needs cells cell → IsPresent (contents cell)
needed_present [] contents cell e n = absurd n
needed_present (one ∷ cells) contents cell e (inl f) = subst (λ (c : Cell). IsPresent (contents c)) f (by_content one.aspect (contents one) (first_present contents one cells e).0)
  where
    by_content : (a : Aspect) (c : Option Content) → holds a c ≡ true → IsPresent c
    by_content a (Some c) h = record { there = c; content_is = refl }
    by_content aspect.Data None h = absurd cc
    by_content aspect.Meta None h = absurd cc
    by_content aspect.Entry None h = absurd cc
needed_present (one ∷ cells) contents cell e (inr n) = needed_present cells contents cell (first_present contents one cells e).1 n

-- ---- names that an op puts

-- no file or directory among the items has the name
abbrev pub IsUnnamed : List ℕ → Item → Type 0
IsUnnamed name item = item.name ≡ name → is_link item.kind ≡ true

abbrev pub AreUnnamed : List ℕ → List Item → Type 0
AreUnnamed name items = Each (λ (item : Item). IsUnnamed name item) items

pub unnamed_is : (items : List Item) (name : List ℕ) → IsRising items → is_taken (item_named items name) ≡ false → AreUnnamed name items
unnamed_is [] name s e = tt
unnamed_is (i ∷ is) name s e = by_case (same i.name name) refl (λ h. unnamed_is is name (rest_rises i is s) h) e
  where
    by_case : (b : Bool) → same i.name name ≡ b → (is_taken (item_named is name) ≡ false → AreUnnamed name is) → is_taken (if b then Some i else item_named is name) ≡ false → AreUnnamed name (i ∷ is)
    by_case true f rest g =
        (λ n. link_by (is_link i.kind) g, rest (subst (λ (m : List ℕ). is_taken (item_named is m) ≡ false) (same_is i.name name f) (ap is_taken (above_none i.name is (first_above i is s)))))
      where
        link_by : (l : Bool) → not l ≡ false → l ≡ true
        link_by true h = refl
        link_by false h = absurd cc
    by_case false f rest g = (λ n. absurd (differ n), rest g)
      where
        differ : i.name ≡ name → ⊥
        differ n = let yes : same i.name name ≡ true = subst (λ (m : List ℕ). same i.name m ≡ true) n (same_self i.name) in absurd cc

pub unnamed_untaken : (items : List Item) (name : List ℕ) → AreUnnamed name items → is_taken (item_named items name) ≡ false
unnamed_untaken [] name h = refl
unnamed_untaken (i ∷ is) name h = by_case (same i.name name) refl (unnamed_untaken is name h.1)
  where
    by_case : (b : Bool) → same i.name name ≡ b → is_taken (item_named is name) ≡ false → is_taken (if b then Some i else item_named is name) ≡ false
    by_case true f rest = ap not (h.0 (same_is i.name name f))
    by_case false f rest = rest

put_all : (name : List ℕ) (items : List Item) (item : Item) → IsUnnamed name item → AreUnnamed name items → AreUnnamed name (with_item items item)
put_all name [] item p h = (p, tt)
put_all name (other ∷ items) item p h = by_order (slice_cmp nat_cmp item.name other.name) (put_all name items item p h.1)
  where
    by_order : (r : Ordering) → AreUnnamed name (with_item items item) → AreUnnamed name (match_ordering r (item ∷ other ∷ items) (item ∷ items) (other ∷ with_item items item))
    by_order Less rest = (p, h)
    by_order Equal rest = (p, h.1)
    by_order Greater rest = (h.0, rest)

drop_all : (name n : List ℕ) (items : List Item) → AreUnnamed name items → AreUnnamed name (without_item items n)
drop_all name n [] h = tt
drop_all name n (item ∷ items) h = by_case (same item.name n) (drop_all name n items h.1)
  where
    by_case : (b : Bool) → AreUnnamed name (without_item items n) → AreUnnamed name (if b then items else item ∷ without_item items n)
    by_case true rest = h.1
    by_case false rest = (h.0, rest)

-- what an edit puts
abbrev PutsNone : List ℕ → Edit → Type 0
PutsNone name (PutItem item) = IsUnnamed name item
PutsNone name other = Unit {0}

edit_all : (name : List ℕ) (e : Edit) (c : Option Content) → PutsNone name e → AreUnnamed name (items_of c) → AreUnnamed name (items_of (edited_if_present e c))
edit_all name e None p h = tt
edit_all name (PutBytes offset bytes) (Some (Bytes b)) p h = tt
edit_all name (PutBytes offset bytes) (Some (Meta mode attrs span)) p h = tt
edit_all name (PutBytes offset bytes) (Some (Names removed items)) p h = h
edit_all name (Resize size) (Some (Bytes b)) p h = tt
edit_all name (Resize size) (Some (Meta mode attrs span)) p h = tt
edit_all name (Resize size) (Some (Names removed items)) p h = h
edit_all name (PutMode new) (Some (Bytes b)) p h = tt
edit_all name (PutMode new) (Some (Meta mode attrs span)) p h = tt
edit_all name (PutMode new) (Some (Names removed items)) p h = h
edit_all name (PutAttr attr) (Some (Bytes b)) p h = tt
edit_all name (PutAttr attr) (Some (Meta mode attrs span)) p h = tt
edit_all name (PutAttr attr) (Some (Names removed items)) p h = h
edit_all name (DropAttr n) (Some (Bytes b)) p h = tt
edit_all name (DropAttr n) (Some (Meta mode attrs span)) p h = tt
edit_all name (DropAttr n) (Some (Names removed items)) p h = h
edit_all name (PutItem item) (Some (Bytes b)) p h = tt
edit_all name (PutItem item) (Some (Meta mode attrs span)) p h = tt
edit_all name (PutItem item) (Some (Names removed items)) p h = put_all name items item p h
edit_all name (DropItem n) (Some (Bytes b)) p h = tt
edit_all name (DropItem n) (Some (Meta mode attrs span)) p h = tt
edit_all name (DropItem n) (Some (Names removed items)) p h = drop_all name n items h
edit_all name MarkRemoved (Some (Bytes b)) p h = tt
edit_all name MarkRemoved (Some (Meta mode attrs span)) p h = tt
edit_all name MarkRemoved (Some (Names removed items)) p h = h

-- ---- marks

abbrev MarksNone : Edit → Type 0
MarksNone MarkRemoved = ⊥
MarksNone other = Unit {0}

edit_mark : (e : Edit) (c : Option Content) → MarksNone e → is_removed (edited_if_present e c) ≡ is_removed c
edit_mark e None p = refl
edit_mark (PutBytes offset bytes) (Some (Bytes b)) p = refl
edit_mark (PutBytes offset bytes) (Some (Meta mode attrs span)) p = refl
edit_mark (PutBytes offset bytes) (Some (Names removed items)) p = refl
edit_mark (Resize size) (Some (Bytes b)) p = refl
edit_mark (Resize size) (Some (Meta mode attrs span)) p = refl
edit_mark (Resize size) (Some (Names removed items)) p = refl
edit_mark (PutMode new) (Some (Bytes b)) p = refl
edit_mark (PutMode new) (Some (Meta mode attrs span)) p = refl
edit_mark (PutMode new) (Some (Names removed items)) p = refl
edit_mark (PutAttr attr) (Some (Bytes b)) p = refl
edit_mark (PutAttr attr) (Some (Meta mode attrs span)) p = refl
edit_mark (PutAttr attr) (Some (Names removed items)) p = refl
edit_mark (DropAttr n) (Some (Bytes b)) p = refl
edit_mark (DropAttr n) (Some (Meta mode attrs span)) p = refl
edit_mark (DropAttr n) (Some (Names removed items)) p = refl
edit_mark (PutItem item) (Some (Bytes b)) p = refl
edit_mark (PutItem item) (Some (Meta mode attrs span)) p = refl
edit_mark (PutItem item) (Some (Names removed items)) p = refl
edit_mark (DropItem n) (Some (Bytes b)) p = refl
edit_mark (DropItem n) (Some (Meta mode attrs span)) p = refl
edit_mark (DropItem n) (Some (Names removed items)) p = refl
edit_mark MarkRemoved (Some c) p = absurd p

-- ---- the same after a list of edits, on one cell

edits_all : (name : List ℕ) (cell : Cell) (es : List (Cell × Edit)) (contents : Contents) → Each (λ (e : Cell × Edit). cell ≡ e.0 → PutsNone name e.1) es → AreUnnamed name (items_of (contents cell)) → AreUnnamed name (items_of (after_edits contents es cell))
edits_all name cell [] contents puts h = h
edits_all name cell (e ∷ es) contents puts h = edits_all name cell es (with_content contents e.0 (edited_if_present e.1 (contents e.0))) puts.1 (by_case (is_eq (cell_cmp cell e.0)) refl)
  where
    by_case : (b : Bool) → is_eq (cell_cmp cell e.0) ≡ b → AreUnnamed name (items_of (if b then edited_if_present e.1 (contents e.0) else contents cell))
    by_case true f =
        let at = cell_is cell e.0 f in
        edit_all name e.1 (contents e.0) (puts.0 at) (subst (λ (c : Cell). AreUnnamed name (items_of (contents c))) at h)
    by_case false f = h

edits_mark : (cell : Cell) (es : List (Cell × Edit)) (contents : Contents) → Each (λ (e : Cell × Edit). cell ≡ e.0 → MarksNone e.1) es → is_removed (after_edits contents es cell) ≡ is_removed (contents cell)
edits_mark cell [] contents none = refl
edits_mark cell (e ∷ es) contents none = edits_mark cell es (with_content contents e.0 (edited_if_present e.1 (contents e.0))) none.1 ∙ by_case (is_eq (cell_cmp cell e.0)) refl
  where
    by_case : (b : Bool) → is_eq (cell_cmp cell e.0) ≡ b → is_removed (if b then edited_if_present e.1 (contents e.0) else contents cell) ≡ is_removed (contents cell)
    by_case true f = let at = cell_is cell e.0 f in edit_mark e.1 (contents e.0) (none.0 at) ∙ ap (λ (c : Cell). is_removed (contents c)) (sym at)
    by_case false f = refl

-- ---- births have no names

record IsBare (content : Content) : Type 0 where
  items : items_of (Some content) ≡ []
  mark : is_removed (Some content) ≡ false

births_bare : (o : StoreOp) → Each (λ (b : Cell × Content). IsBare b.1) (births o)
births_bare (op.Write g offset bytes) = tt
births_bare (op.Truncate g size) = tt
births_bare (op.SetMode g mode) = tt
births_bare (op.SetAttr g attr) = tt
births_bare (op.DelAttr g name) = tt
births_bare (op.AddName parent item mode span) = of_kind item.kind
  where
    of_kind : (k : Kind) → Each (λ (b : Cell × Content). IsBare b.1) (born k item.gfid mode span)
    of_kind kind.File = (record { items = refl; mark = refl }, (record { items = refl; mark = refl }, tt))
    of_kind kind.Dir = (record { items = refl; mark = refl }, (record { items = refl; mark = refl }, tt))
    of_kind kind.Link = tt
births_bare (op.DropName parent name) = tt
births_bare (op.DropDir parent name g) = tt
births_bare (op.Move parent name target new_name) = tt
births_bare (op.MakeCopy g span) = (record { items = refl; mark = refl }, (record { items = refl; mark = refl }, tt))

module _ {A : Type 0} (f : Option Content → A) (cell : Cell) (bare : (c : Content) → IsBare c → f (Some c) ≡ f None) where
  births_same : (bs : List (Cell × Content)) (contents : Contents) → Each (λ (b : Cell × Content). IsBare b.1) bs → f (after_births contents bs cell) ≡ f (contents cell)
  births_same [] contents h = refl
  births_same (b ∷ bs) contents h = births_same bs (with_content contents b.0 (born_if_absent b.1 (contents b.0))) h.1 ∙ by_case (is_eq (cell_cmp cell b.0)) refl
    where
      one : (c : Option Content) → f (born_if_absent b.1 c) ≡ f c
      one None = bare b.1 h.0
      one (Some c) = refl

      by_case : (k : Bool) → is_eq (cell_cmp cell b.0) ≡ k → f (if k then born_if_absent b.1 (contents b.0) else contents cell) ≡ f (contents cell)
      by_case true e = one (contents b.0) ∙ ap (λ (c : Cell). f (contents c)) (sym (cell_is cell b.0 e))
      by_case false e = refl

-- ---- ops

-- a file's or directory's name that the op puts
abbrev pub Puts : StoreOp → Gfid → List ℕ → Type 0
Puts (op.AddName parent item mode span) dir name = (parent ≡ dir) × (item.name ≡ name) × (is_link item.kind ≡ false)
Puts (op.Move parent one target another) dir name = (target ≡ dir) × (another ≡ name)
Puts other dir name = ⊥

same_dir : (a b : Gfid) → names_cell a ≡ names_cell b → b ≡ a
same_dir a b e = ap (λ (c : Cell). c.gfid) (sym e)

-- an op that does not touch the name puts none of it
puts_none : (contents : Contents) (o : StoreOp) (dir : Gfid) (name : List ℕ) → (Puts o dir name → ⊥) → Each (λ (e : Cell × Edit). names_cell dir ≡ e.0 → PutsNone name e.1) (edits contents o)
puts_none contents (op.Write g offset bytes) dir name off = (λ e. tt, tt)
puts_none contents (op.Truncate g size) dir name off = (λ e. tt, tt)
puts_none contents (op.SetMode g mode) dir name off = (λ e. tt, tt)
puts_none contents (op.SetAttr g attr) dir name off = (λ e. tt, tt)
puts_none contents (op.DelAttr g n) dir name off = (λ e. tt, tt)
puts_none contents (op.AddName parent item mode span) dir name off = (λ e n. link_by (is_link item.kind) (λ l. off (same_dir dir parent e, n, l)), tt)
  where
    link_by : (b : Bool) → (b ≡ false → ⊥) → b ≡ true
    link_by true h = refl
    link_by false h = absurd (h refl)
puts_none contents (op.DropName parent n) dir name off = (λ e. tt, tt)
puts_none contents (op.DropDir parent n g) dir name off = (λ e. tt, (λ e. tt, tt))
puts_none contents (op.Move parent n target m) dir name off = (λ e. tt, moved (item_in contents parent n))
  where
    moved : (item : Option Item) → Each (λ (e : Cell × Edit). names_cell dir ≡ e.0 → PutsNone name e.1) (moved_in item target m)
    moved None = tt
    moved (Some item) = (λ e k. absurd (off (same_dir dir target e, k)), tt)
puts_none contents (op.MakeCopy g span) dir name off = tt

marks_none : (contents : Contents) (o : StoreOp) (dir : Gfid) → (Removes o dir → ⊥) → Each (λ (e : Cell × Edit). names_cell dir ≡ e.0 → MarksNone e.1) (edits contents o)
marks_none contents (op.Write g offset bytes) dir off = (λ e. tt, tt)
marks_none contents (op.Truncate g size) dir off = (λ e. tt, tt)
marks_none contents (op.SetMode g mode) dir off = (λ e. tt, tt)
marks_none contents (op.SetAttr g attr) dir off = (λ e. tt, tt)
marks_none contents (op.DelAttr g n) dir off = (λ e. tt, tt)
marks_none contents (op.AddName parent item mode span) dir off = (λ e. tt, tt)
marks_none contents (op.DropName parent n) dir off = (λ e. tt, tt)
marks_none contents (op.DropDir parent n g) dir off = (λ e. tt, (λ e. off (same_dir dir g e), tt))
marks_none contents (op.Move parent n target m) dir off = (λ e. tt, moved (item_in contents parent n))
  where
    moved : (item : Option Item) → Each (λ (e : Cell × Edit). names_cell dir ≡ e.0 → MarksNone e.1) (moved_in item target m)
    moved None = tt
    moved (Some item) = (λ e. tt, tt)
marks_none contents (op.MakeCopy g span) dir off = tt

-- a name that is free stays free where the op does not touch it
pub op_untaken : (contents : Contents) (o : StoreOp) (dir : Gfid) (name : List ℕ) → (Puts o dir name → ⊥) → IsRising (items_of (contents (names_cell dir))) → is_taken (item_in contents dir name) ≡ false → is_taken (item_in (contents_after contents o) dir name) ≡ false
op_untaken contents o dir name off rising e =
    ap (λ (l : List Item). is_taken (item_named l name)) (births_same items_of (names_cell dir) (λ c b. b.items) (births o) (after_edits contents (edits contents o)) (births_bare o))
    ∙ unnamed_untaken (items_of (after_edits contents (edits contents o) (names_cell dir))) name
    (edits_all name (names_cell dir) (edits contents o) contents (puts_none contents o dir name off) (unnamed_is (items_of (contents (names_cell dir))) name rising e))

-- a directory that the op does not remove is not removed
pub op_mark : (contents : Contents) (o : StoreOp) (dir : Gfid) → (Removes o dir → ⊥) → is_removed (contents_after contents o (names_cell dir)) ≡ is_removed (contents (names_cell dir))
op_mark contents o dir off =
    births_same is_removed (names_cell dir) (λ c b. b.mark) (births o) (after_edits contents (edits contents o)) (births_bare o)
    ∙ edits_mark (names_cell dir) (edits contents o) contents (marks_none contents o dir off)
