-- Each adopted content is of its cell's aspect, over every list of steps.
use Rattle.std.proofs.Common.{◌≡◌, ◌∙◌, ℕ, Bool, true, false, refl, sym, ap, subst, Option, Some, None}
use Rattle.std.specs.Prelude.{List, [], ◌∷◌, is_some, if◌then◌else◌}
use Rattle.fop_types.specs.Cells.{root, meta_cell, names_cell}
use Rattle.fop_types.specs.StoreOps.{Contents, Edit, births, born, edits, edited, edited_if_present, edited_on, born_if_absent, born_on, holds, with_bytes_by, with_mode, with_attrs_by, with_items_by, as_removed}
use Rattle.fop_types.specs.StoreOps.Edit.{PutBytes, Resize, PutMode, PutAttr, DropAttr, PutItem, DropItem, MarkRemoved}
use Rattle.fop_types.specs.declared.cells.Aspect.{Aspect}
use Rattle.fop_types.specs.declared.cells.Aspect.TheVariants as aspect
use Rattle.fop_types.specs.declared.cells.Cell.{Cell}
use Rattle.fop_types.specs.declared.cells.Gfid.{Gfid}
use Rattle.fop_types.specs.declared.cells.Kind.{Kind}
use Rattle.fop_types.specs.declared.cells.Kind.TheVariants.{File, Dir, Link}
use Rattle.fop_types.specs.declared.contents.Attr.{Attr}
use Rattle.fop_types.specs.declared.contents.Item.{Item}
use Rattle.fop_types.specs.declared.contents.Span.{Span}
use Rattle.fop_types.specs.declared.contents.Content.{Content}
use Rattle.fop_types.specs.declared.contents.Content.TheVariants.{Bytes, Meta, Names}
use Rattle.fop_types.specs.declared.store_ops.StoreOp.{StoreOp}
use Rattle.fop_types.specs.declared.store_ops.StoreOp.TheVariants.{AddName, MakeCopy}
use Rattle.afr_machine.specs.Replicas.{Size}
use Rattle.afr_machine.specs.Touching.{is_cell}
use Rattle.afr_machine.specs.Copies.{content_of, born_as, nothing_kept}
use Rattle.afr_machine.specs.States.{State, start}
use Rattle.afr_machine.specs.Steps.{Step, Allowed, after, IsReached}
use Rattle.afr_laws.proofs.Sharing.{cells_are}
use Rattle.afr_contents.proofs.Contents.{ContentsMove, contents_move}
use Rattle.afr_contents.proofs.Ops.{after_births_on, contents_on}

-- ---- the aspect of a content

abbrev aspect_of : Content → Aspect
aspect_of (Bytes bytes) = aspect.Data
aspect_of (Meta mode attrs span) = aspect.Meta
aspect_of (Names removed items) = aspect.Entry

abbrev IsOf : Cell → Option Content → Type 0
IsOf cell None = Unit {0}
IsOf cell (Some content) = aspect_of content ≡ cell.aspect

own_holds : (content : Content) → holds (aspect_of content) (Some content) ≡ true
own_holds (Bytes bytes) = refl
own_holds (Meta mode attrs span) = refl
own_holds (Names removed items) = refl

pub holds_own : (cell : Cell) (x : Option Content) → IsOf cell x → is_some x ≡ true → holds cell.aspect x ≡ true
holds_own cell (Some content) is h = ap (λ a. holds a (Some content)) (sym is) ∙ own_holds content
holds_own cell None is h = absurd (let no : false ≡ true = h in cc)

-- ---- edits keep it

bytes_keep : (change : List ℕ → List ℕ) (content : Content) → aspect_of (with_bytes_by change content) ≡ aspect_of content
bytes_keep change (Bytes bytes) = refl
bytes_keep change (Meta mode attrs span) = refl
bytes_keep change (Names removed items) = refl

mode_keeps : (new : ℕ) (content : Content) → aspect_of (with_mode new content) ≡ aspect_of content
mode_keeps new (Bytes bytes) = refl
mode_keeps new (Meta mode attrs span) = refl
mode_keeps new (Names removed items) = refl

attrs_keep : (change : List Attr → List Attr) (content : Content) → aspect_of (with_attrs_by change content) ≡ aspect_of content
attrs_keep change (Bytes bytes) = refl
attrs_keep change (Meta mode attrs span) = refl
attrs_keep change (Names removed items) = refl

items_keep : (change : List Item → List Item) (content : Content) → aspect_of (with_items_by change content) ≡ aspect_of content
items_keep change (Bytes bytes) = refl
items_keep change (Meta mode attrs span) = refl
items_keep change (Names removed items) = refl

removed_keeps : (content : Content) → aspect_of (as_removed content) ≡ aspect_of content
removed_keeps (Bytes bytes) = refl
removed_keeps (Meta mode attrs span) = refl
removed_keeps (Names removed items) = refl

edited_keeps : (edit : Edit) (content : Content) → aspect_of (edited edit content) ≡ aspect_of content
edited_keeps (PutBytes offset bytes) content = bytes_keep _ content
edited_keeps (Resize size) content = bytes_keep _ content
edited_keeps (PutMode mode) content = mode_keeps mode content
edited_keeps (PutAttr attr) content = attrs_keep _ content
edited_keeps (DropAttr name) content = attrs_keep _ content
edited_keeps (PutItem item) content = items_keep _ content
edited_keeps (DropItem name) content = items_keep _ content
edited_keeps MarkRemoved content = removed_keeps content

module _ (cell : Cell) where
  edit_of : (edit : Edit) (x : Option Content) → IsOf cell x → IsOf cell (edited_if_present edit x)
  edit_of edit None is = tt
  edit_of edit (Some content) is = edited_keeps edit content ∙ is

  edits_of : (es : List (Cell × Edit)) (x : Option Content) → IsOf cell x → IsOf cell (edited_on cell x es)
  edits_of [] x is = is
  edits_of (e ∷ es) x is = edits_of es (if is_cell cell e.0 then edited_if_present e.1 x else x) (by_case (is_cell cell e.0)) where
    by_case : (b : Bool) → IsOf cell (if b then edited_if_present e.1 x else x)
    by_case true = edit_of e.1 x is
    by_case false = is

-- ---- so do births

abbrev AreOf : List (Cell × Content) → Type 0
AreOf [] = Unit {0}
AreOf (b ∷ bs) = (aspect_of b.1 ≡ b.0.aspect) × AreOf bs

new_of : (kind : Kind) (gfid : Gfid) (mode : ℕ) (span : Option Span) → AreOf (born kind gfid mode span)
new_of File gfid mode span = (refl, (refl, tt))
new_of Dir gfid mode span = (refl, (refl, tt))
new_of Link gfid mode span = tt

births_of : (op : StoreOp) → AreOf (births op)
births_of (AddName parent item mode span) = new_of item.kind item.gfid mode span
births_of (MakeCopy gfid span) = new_of Dir gfid 0 span
births_of other = tt

module _ (cell : Cell) where
  birth_of : (content : Content) → aspect_of content ≡ cell.aspect → (x : Option Content) → IsOf cell x → IsOf cell (born_if_absent content x)
  birth_of content own None is = own
  birth_of content own (Some there) is = is

  born_of : (bs : List (Cell × Content)) → AreOf bs → (x : Option Content) → IsOf cell x → IsOf cell (born_on cell x bs)
  born_of [] all x is = is
  born_of (b ∷ bs) all x is = born_of bs all.1 (if is_cell cell b.0 then born_if_absent b.1 x else x) (by_case (is_cell cell b.0) refl) where
    by_case : (c : Bool) → is_cell cell b.0 ≡ c → IsOf cell (if c then born_if_absent b.1 x else x)
    by_case true here = birth_of b.1 (all.0 ∙ ap (λ (d : Cell). d.aspect) (sym (cells_are cell b.0 here))) x is
    by_case false other = is

-- ---- every list of steps

root_of : (cell : Cell) → IsOf cell (start.adopted cell)
root_of cell = by_case (is_cell cell (meta_cell root)) refl (is_cell cell (names_cell root)) refl where
  by_case : (a : Bool) → is_cell cell (meta_cell root) ≡ a → (b : Bool) → is_cell cell (names_cell root) ≡ b → IsOf cell (content_of (if a then born_as (Meta 493 [] None) else (if b then born_as (Names false []) else nothing_kept)).copy)
  by_case true here b is = ap (λ (d : Cell). d.aspect) (sym (cells_are cell (meta_cell root) here))
  by_case false other true here = ap (λ (d : Cell). d.aspect) (sym (cells_are cell (names_cell root) here))
  by_case false other false none = tt

module _ (size : Size) (m : State) (step : Step) (allowed : Allowed size m step) (cell : Cell) (was : IsOf cell (m.adopted cell)) where
  of_after : ContentsMove size m step (after size m step) → IsOf cell ((after size m step).adopted cell)
  of_after (ContentsMove.Same a b) = subst (λ (f : Contents). IsOf cell (f cell)) (sym a) was
  of_after (ContentsMove.Unsettles op first a b) = subst (λ (f : Contents). IsOf cell (f cell)) (sym a) was
  of_after (ContentsMove.Bears op first a b) =
      subst (λ (f : Contents). IsOf cell (f cell)) (sym a) (subst (IsOf cell) (sym (after_births_on (births op) m.adopted cell)) (born_of cell (births op) (births_of op) (m.adopted cell) was))
  of_after (ContentsMove.Adopts t step_is may unsettled adopts a b) =
      subst (λ (f : Contents). IsOf cell (f cell)) (sym a)
      (subst (IsOf cell) (sym (contents_on m.adopted (m.changes may.change).op cell))
      (born_of cell (births (m.changes may.change).op) (births_of (m.changes may.change).op) _ (edits_of cell (edits m.adopted (m.changes may.change).op) (m.adopted cell) was)))

pub adopted_of_aspect : (size : Size) (m : State) → IsReached size m → (cell : Cell) → IsOf cell (m.adopted cell)
adopted_of_aspect size m IsReached.Start cell = root_of cell
adopted_of_aspect size m (IsReached.Further old step reached allowed) cell = of_after size old step allowed cell (adopted_of_aspect size old reached cell) (contents_move size old step allowed)
