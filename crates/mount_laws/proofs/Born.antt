-- What births and ops make of a cell: a present cell stays, an absent one gets what it is given; no edit changes a range.
use Rattle.std.proofs.Common.{◌≡◌, ◌∙◌, ◌⊎◌, inl, inr, Bool, true, false, refl, sym, ap, subst, List, [], ◌∷◌, Option, Some, None, is_some, if◌then◌else◌}
use Rattle.std.specs.Ordering.{is_eq}
use Rattle.afr_machine.specs.Touching.{is_cell, has_cell}
use Rattle.dht_fops.specs.Looks.{span_of}
use Rattle.fop_types.specs.Cells.{data_cell, meta_cell, names_cell}
use Rattle.fop_types.specs.Orders.{cell_cmp}
use Rattle.fop_types.specs.StoreOps.{Contents, Edit, edited, edits, born, births, with_content, edited_if_present, after_edits, born_if_absent, after_births, fits, contents_after, needs}
use Rattle.fop_types.specs.StoreOps.Edit.{PutBytes, Resize, PutMode, PutAttr, DropAttr, PutItem, DropItem, MarkRemoved}
use Rattle.fop_types.specs.declared.cells.Cell.{Cell}
use Rattle.fop_types.specs.declared.cells.Gfid.{Gfid}
use Rattle.fop_types.specs.declared.cells.Kind.{Kind}
use Rattle.fop_types.specs.declared.cells.Kind.TheVariants as kind
use Rattle.fop_types.specs.declared.contents.Content.{Content}
use Rattle.fop_types.specs.declared.contents.Content.TheVariants.{Bytes, Meta, Names}
use Rattle.fop_types.specs.declared.contents.Item.{Item}
use Rattle.fop_types.specs.declared.contents.Span.{Span}
use Rattle.fop_types.specs.declared.store_ops.StoreOp.{StoreOp}
use Rattle.fop_types.specs.declared.store_ops.StoreOp.TheVariants as op
use Rattle.mount_laws.specs.Births.{given, IsAsFirst, IsAsBorn}
use Rattle.mount_laws.specs.Steps.{applied}
use Rattle.mount_laws.proofs.Contents.{edits_are_of, edits_leave}
use Rattle.mount_laws.proofs.Sharing.{cells_are}

unwrap : {A : Type 0} (a b : A) → ◌≡◌ {A = Option A} (Some a) (Some b) → a ≡ b
unwrap a b e = cc

-- ---- births

-- the first content that there is
abbrev pub or_else : Option Content → Option Content → Option Content
or_else None other = other
or_else (Some x) other = Some x

or_else_again : (a : Option Content) (x : Content) (b : Option Content) → or_else (born_if_absent x a) b ≡ or_else a (Some x)
or_else_again None x b = refl
or_else_again (Some y) x b = refl

pub births_are : (bs : List (Cell × Content)) (contents : Contents) (cell : Cell) → after_births contents bs cell ≡ or_else (contents cell) (given bs cell)
births_are [] contents cell = none (contents cell)
  where
    none : (a : Option Content) → a ≡ or_else a None
    none None = refl
    none (Some x) = refl
births_are (b ∷ bs) contents cell = births_are bs (with_content contents b.0 (born_if_absent b.1 (contents b.0))) cell ∙ by_case (is_cell cell b.0) refl
  where
    by_case : (x : Bool) → is_cell cell b.0 ≡ x → or_else (if x then born_if_absent b.1 (contents b.0) else contents cell) (given bs cell) ≡ or_else (contents cell) (if x then Some b.1 else given bs cell)
    by_case true e = or_else_again (contents b.0) b.1 (given bs cell) ∙ ap (λ (c : Cell). or_else (contents c) (Some b.1)) (sym (cells_are cell b.0 e))
    by_case false e = refl

-- ---- which cells

-- the births of a copy and of a new object are of its own cells
pub given_by_copy : (gfid : Gfid) (span : Option Span) (cell : Cell) (x : Content) → given (births (op.MakeCopy gfid span)) cell ≡ Some x → cell.gfid ≡ gfid
given_by_copy gfid span cell x h = by_case (is_cell cell (meta_cell gfid)) refl (is_cell cell (names_cell gfid)) refl h
  where
    by_case : (a : Bool) → is_cell cell (meta_cell gfid) ≡ a → (b : Bool) → is_cell cell (names_cell gfid) ≡ b → (if a then Some (Meta 0 [] span) else (if b then Some (Names false []) else None)) ≡ Some x → cell.gfid ≡ gfid
    by_case true e b f k = ap (λ (c : Cell). c.gfid) (cells_are cell (meta_cell gfid) e)
    by_case false e true f k = ap (λ (c : Cell). c.gfid) (cells_are cell (names_cell gfid) f)
    by_case false e false f k = absurd cc

given_by_kind : (k : Kind) (gfid : Gfid) (mode : _) (span : Option Span) (cell : Cell) (x : Content) → given (born k gfid mode span) cell ≡ Some x → cell.gfid ≡ gfid
given_by_kind kind.Link gfid mode span cell x h = absurd cc
given_by_kind kind.File gfid mode span cell x h = by_case (is_cell cell (data_cell gfid)) refl (is_cell cell (meta_cell gfid)) refl h
  where
    by_case : (a : Bool) → is_cell cell (data_cell gfid) ≡ a → (b : Bool) → is_cell cell (meta_cell gfid) ≡ b → (if a then Some (Bytes []) else (if b then Some (Meta mode [] span) else None)) ≡ Some x → cell.gfid ≡ gfid
    by_case true e b f k = ap (λ (c : Cell). c.gfid) (cells_are cell (data_cell gfid) e)
    by_case false e true f k = ap (λ (c : Cell). c.gfid) (cells_are cell (meta_cell gfid) f)
    by_case false e false f k = absurd cc
given_by_kind kind.Dir gfid mode span cell x h = by_case (is_cell cell (meta_cell gfid)) refl (is_cell cell (names_cell gfid)) refl h
  where
    by_case : (a : Bool) → is_cell cell (meta_cell gfid) ≡ a → (b : Bool) → is_cell cell (names_cell gfid) ≡ b → (if a then Some (Meta mode [] span) else (if b then Some (Names false []) else None)) ≡ Some x → cell.gfid ≡ gfid
    by_case true e b f k = ap (λ (c : Cell). c.gfid) (cells_are cell (meta_cell gfid) e)
    by_case false e true f k = ap (λ (c : Cell). c.gfid) (cells_are cell (names_cell gfid) f)
    by_case false e false f k = absurd cc

pub given_by_add : (parent : Gfid) (item : Item) (mode : _) (span : Option Span) (cell : Cell) (x : Content) → given (births (op.AddName parent item mode span)) cell ≡ Some x → cell.gfid ≡ item.gfid
given_by_add parent item mode span cell x h = given_by_kind item.kind item.gfid mode span cell x h

-- ---- ranges

edited_span : (e : Edit) (c : Content) → span_of (Some (edited e c)) ≡ span_of (Some c)
edited_span (PutBytes offset bytes) (Bytes old) = refl
edited_span (PutBytes offset bytes) (Meta mode attrs span) = refl
edited_span (PutBytes offset bytes) (Names removed items) = refl
edited_span (Resize size) (Bytes old) = refl
edited_span (Resize size) (Meta mode attrs span) = refl
edited_span (Resize size) (Names removed items) = refl
edited_span (PutMode new) (Bytes old) = refl
edited_span (PutMode new) (Meta mode attrs span) = refl
edited_span (PutMode new) (Names removed items) = refl
edited_span (PutAttr attr) (Bytes old) = refl
edited_span (PutAttr attr) (Meta mode attrs span) = refl
edited_span (PutAttr attr) (Names removed items) = refl
edited_span (DropAttr name) (Bytes old) = refl
edited_span (DropAttr name) (Meta mode attrs span) = refl
edited_span (DropAttr name) (Names removed items) = refl
edited_span (PutItem item) (Bytes old) = refl
edited_span (PutItem item) (Meta mode attrs span) = refl
edited_span (PutItem item) (Names removed items) = refl
edited_span (DropItem name) (Bytes old) = refl
edited_span (DropItem name) (Meta mode attrs span) = refl
edited_span (DropItem name) (Names removed items) = refl
edited_span MarkRemoved (Bytes old) = refl
edited_span MarkRemoved (Meta mode attrs span) = refl
edited_span MarkRemoved (Names removed items) = refl

-- an edited cell is present as before, with its range
pub record IsEdited (old new : Option Content) : Type 0 where
  pub there : is_some new ≡ is_some old
  pub span : span_of new ≡ span_of old

edited_one : (e : Edit) (old : Option Content) → IsEdited old (edited_if_present e old)
edited_one e None = record { there = refl; span = refl }
edited_one e (Some c) = record { there = refl; span = edited_span e c }

edits_keep : (cell : Cell) (es : List (Cell × Edit)) (contents : Contents) → IsEdited (contents cell) (after_edits contents es cell)
edits_keep cell [] contents = record { there = refl; span = refl }
edits_keep cell (e ∷ es) contents =
    let one : IsEdited (contents cell) (with_content contents e.0 (edited_if_present e.1 (contents e.0)) cell) = by_case (is_eq (cell_cmp cell e.0)) refl in
    let rest = edits_keep cell es (with_content contents e.0 (edited_if_present e.1 (contents e.0))) in
    record { there = rest.there ∙ one.there; span = rest.span ∙ one.span }
  where
    by_case : (b : Bool) → is_eq (cell_cmp cell e.0) ≡ b → IsEdited (contents cell) (if b then edited_if_present e.1 (contents e.0) else contents cell)
    by_case true same = subst (λ (c : Cell). IsEdited (contents c) (edited_if_present e.1 (contents e.0))) (sym (cells_are cell e.0 same)) (edited_one e.1 (contents e.0))
    by_case false other = record { there = refl; span = refl }

-- ---- a cell beside its first birth

-- births of one content for both
pub births_as_born : (firm : Bool) (first now new : Option Content) → IsAsFirst first new → IsAsBorn firm first now → IsAsBorn firm (or_else first new) (or_else now new)
births_as_born firm None None new one a = record { there = λ h. h; span = λ h. refl; same = λ soft h. refl }
births_as_born firm (Some x) (Some y) new one a = a
births_as_born firm None (Some y) new one a = let clash : false ≡ true = a.there refl in absurd cc
births_as_born firm (Some x) None None one a = record { there = λ h. refl; span = λ h. absurd cc; same = λ soft h. absurd cc }
births_as_born firm (Some x) None (Some y) one a = by_case (one y refl)
  where
    by_case : (◌≡◌ {A = Option Content} (Some x) None) ⊎ (◌≡◌ {A = Option Content} (Some x) (Some y)) → IsAsBorn firm (Some x) (Some y)
    by_case (inl e) = absurd cc
    by_case (inr e) = record { there = λ h. refl; span = λ h. ap span_of (sym e); same = λ soft h. sym e }

-- a first birth where the cell stays
pub later_as_born : (firm : Bool) (first now new : Option Content) → IsAsBorn firm first now → IsAsBorn firm (or_else first new) now
later_as_born firm (Some x) now new a = a
later_as_born firm None None new a = record { there = λ h. absurd cc; span = λ h. absurd cc; same = λ soft h. absurd cc }
later_as_born firm None (Some y) new a = let clash : false ≡ true = a.there refl in absurd cc

-- a firm cell is edited
pub edited_as_born : (first now new : Option Content) → IsEdited now new → IsAsBorn true first now → IsAsBorn true first new
edited_as_born first now new e a = record { there = λ h. a.there (sym e.there ∙ h); span = λ h. e.span ∙ a.span (sym e.there ∙ h); same = λ soft h. absurd cc }

-- what births of an adopted op give was born before
pub given_as_born : (firm : Bool) (first now new : Option Content) → ((x : Content) → new ≡ Some x → first ≡ Some x) → IsAsBorn firm first now → IsAsBorn firm first (or_else now new)
given_as_born firm first (Some y) new born a = a
given_as_born firm first None None born a = a
given_as_born firm first None (Some x) born a = record { there = λ h. ap is_some (born x refl); span = λ h. ap span_of (sym (born x refl)); same = λ soft h. sym (born x refl) }

-- an op is applied
pub applied_as_born : (contents : Contents) (o : StoreOp) (cell : Cell) (firm : Bool) (first : Option Content) → (has_cell (needs o) cell ≡ true → firm ≡ true) → ((x : Content) → given (births o) cell ≡ Some x → first ≡ Some x)
    → IsAsBorn firm first (contents cell) → IsAsBorn firm first (applied contents o cell)
applied_as_born contents o cell firm first touched born a = by_fit (fits contents o)
  where
    by_need : (b : Bool) → has_cell (needs o) cell ≡ b → IsAsBorn firm first (after_edits contents (edits contents o) cell)
    by_need true e =
        subst (λ (f : Bool). IsAsBorn f first (after_edits contents (edits contents o) cell)) (sym (touched e))
        (edited_as_born first (contents cell) (after_edits contents (edits contents o) cell) (edits_keep cell (edits contents o) contents) (subst (λ (f : Bool). IsAsBorn f first (contents cell)) (touched e) a))
    by_need false e = subst (λ (c : Option Content). IsAsBorn firm first c) (sym (edits_leave (needs o) cell e (edits contents o) contents (edits_are_of contents o))) a

    by_fit : (b : Bool) → IsAsBorn firm first ((if b then contents_after contents o else contents) cell)
    by_fit false = a
    by_fit true =
        subst (λ (c : Option Content). IsAsBorn firm first c) (sym (births_are (births o) (after_edits contents (edits contents o)) cell))
        (given_as_born firm first (after_edits contents (edits contents o) cell) (given (births o) cell) born (by_need (has_cell (needs o) cell) refl))
