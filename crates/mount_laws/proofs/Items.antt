-- What holds of each item of some contents, and of the item that an op adds, holds of each item after the op.
use Rattle.std.proofs.Common.{◌≡◌, ℕ, Bool, true, false, refl, sym, subst, List, [], ◌∷◌, Option, Some, None, if◌then◌else◌}
use Rattle.std.specs.Prelude.{nat_eq}
use Rattle.std.specs.Cmp.Lexicographic.{slice_cmp, pointwise}
use Rattle.std.specs.Ordering.{is_eq, match_ordering, nat_cmp}
use Rattle.std.specs.declared.cmp.Ordering.{Ordering}
use Rattle.std.specs.declared.cmp.Ordering.TheVariants.{Less, Equal, Greater}
use Rattle.fop_types.specs.Bounds.{Each}
use Rattle.fop_types.specs.Cells.{names_cell}
use Rattle.fop_types.specs.Names.{item_named, with_item, without_item, renamed}
use Rattle.fop_types.specs.Orders.{cell_cmp}
use Rattle.fop_types.specs.StoreOps.{Contents, Edit, with_bytes_by, with_mode, with_attrs_by, as_removed, edited, items_of, item_in, moved_in, edits, births, with_content, edited_if_present, after_edits, born_if_absent, after_births, fits, contents_after}
use Rattle.fop_types.specs.StoreOps.Edit.{PutBytes, Resize, PutMode, PutAttr, DropAttr, PutItem, DropItem, MarkRemoved}
use Rattle.fop_types.specs.declared.cells.Cell.{Cell}
use Rattle.fop_types.specs.declared.cells.Gfid.{Gfid}
use Rattle.fop_types.specs.declared.contents.Attr.{Attr}
use Rattle.fop_types.specs.declared.contents.Content.{Content}
use Rattle.fop_types.specs.declared.contents.Content.TheVariants.{Bytes, Meta, Names}
use Rattle.fop_types.specs.declared.contents.Item.{Item}
use Rattle.fop_types.specs.declared.contents.Span.{Span}
use Rattle.fop_types.specs.declared.store_ops.StoreOp.{StoreOp}
use Rattle.fop_types.specs.declared.store_ops.StoreOp.TheVariants as op
use Rattle.mount_laws.specs.Steps.{applied}
use Rattle.mount_laws.proofs.Contents.{HaveNoNames, births_have_none}

-- ---- edits that leave the names

bytes_items : (f : List ℕ → List ℕ) (c : Content) → items_of (Some (with_bytes_by f c)) ≡ items_of (Some c)
bytes_items f (Bytes bytes) = refl
bytes_items f (Meta mode attrs span) = refl
bytes_items f (Names removed items) = refl

mode_items : (mode : ℕ) (c : Content) → items_of (Some (with_mode mode c)) ≡ items_of (Some c)
mode_items new (Bytes bytes) = refl
mode_items new (Meta mode attrs span) = refl
mode_items new (Names removed items) = refl

attrs_items : (f : List Attr → List Attr) (c : Content) → items_of (Some (with_attrs_by f c)) ≡ items_of (Some c)
attrs_items f (Bytes bytes) = refl
attrs_items f (Meta mode attrs span) = refl
attrs_items f (Names removed items) = refl

removed_items : (c : Content) → items_of (Some (as_removed c)) ≡ items_of (Some c)
removed_items (Bytes bytes) = refl
removed_items (Meta mode attrs span) = refl
removed_items (Names removed items) = refl

module _ (P : Item → Type 0) where
  -- ---- lists of items

  put_all : (items : List Item) (item : Item) → P item → Each P items → Each P (with_item items item)
  put_all [] item p h = (p, tt)
  put_all (other ∷ items) item p h = by_order (slice_cmp nat_cmp item.name other.name) (put_all items item p h.1)
    where
      by_order : (o : Ordering) → Each P (with_item items item) → Each P (match_ordering o (item ∷ other ∷ items) (item ∷ items) (other ∷ with_item items item))
      by_order Less rest = (p, h)
      by_order Equal rest = (p, h.1)
      by_order Greater rest = (h.0, rest)

  drop_all : (items : List Item) (name : List ℕ) → Each P items → Each P (without_item items name)
  drop_all [] name h = tt
  drop_all (item ∷ items) name h = by_case (pointwise nat_eq item.name name) (drop_all items name h.1)
    where
      by_case : (b : Bool) → Each P (without_item items name) → Each P (if b then items else item ∷ without_item items name)
      by_case true rest = h.1
      by_case false rest = (h.0, rest)

  pub found_is : (items : List Item) (name : List ℕ) (item : Item) → Each P items → item_named items name ≡ Some item → P item
  found_is [] name item h e = absurd cc
  found_is (one ∷ items) name item h e = by_case (pointwise nat_eq one.name name) (λ k. found_is items name item h.1 k) e
    where
      unwrap : (a b : Item) → ◌≡◌ {A = Option Item} (Some a) (Some b) → a ≡ b
      unwrap a b e = cc

      by_case : (b : Bool) → (item_named items name ≡ Some item → P item) → (if b then Some one else item_named items name) ≡ Some item → P item
      by_case true more k = subst P (unwrap one item k) h.0
      by_case false more k = more k

  -- ---- edits

  abbrev PutsOnly : Edit → Type 0
  PutsOnly (PutItem item) = P item
  PutsOnly other = Unit {0}

  edit_all : (e : Edit) (c : Content) → PutsOnly e → Each P (items_of (Some c)) → Each P (items_of (Some (edited e c)))
  edit_all (PutBytes offset bytes) c p h = subst (λ (items : List Item). Each P items) (sym (bytes_items _ c)) h
  edit_all (Resize size) c p h = subst (λ (items : List Item). Each P items) (sym (bytes_items _ c)) h
  edit_all (PutMode mode) c p h = subst (λ (items : List Item). Each P items) (sym (mode_items mode c)) h
  edit_all (PutAttr attr) c p h = subst (λ (items : List Item). Each P items) (sym (attrs_items _ c)) h
  edit_all (DropAttr name) c p h = subst (λ (items : List Item). Each P items) (sym (attrs_items _ c)) h
  edit_all (PutItem item) (Bytes bytes) p h = h
  edit_all (PutItem item) (Meta mode attrs span) p h = h
  edit_all (PutItem item) (Names removed items) p h = put_all items item p h
  edit_all (DropItem name) (Bytes bytes) p h = h
  edit_all (DropItem name) (Meta mode attrs span) p h = h
  edit_all (DropItem name) (Names removed items) p h = drop_all items name h
  edit_all MarkRemoved c p h = subst (λ (items : List Item). Each P items) (sym (removed_items c)) h

  present_all : (e : Edit) (old : Option Content) → PutsOnly e → Each P (items_of old) → Each P (items_of (edited_if_present e old))
  present_all e None p h = tt
  present_all e (Some c) p h = edit_all e c p h

  edits_all : (es : List (Cell × Edit)) (contents : Contents) → Each (λ (e : Cell × Edit). PutsOnly e.1) es → ((cell : Cell) → Each P (items_of (contents cell))) → (cell : Cell) → Each P (items_of (after_edits contents es cell))
  edits_all [] contents puts h cell = h cell
  edits_all (e ∷ es) contents puts h cell = edits_all es (with_content contents e.0 (edited_if_present e.1 (contents e.0))) puts.1 (λ other. by_case other (is_eq (cell_cmp other e.0))) cell
    where
      by_case : (other : Cell) (b : Bool) → Each P (items_of (if b then edited_if_present e.1 (contents e.0) else contents other))
      by_case other true = present_all e.1 (contents e.0) puts.0 (h e.0)
      by_case other false = h other

  -- ---- births

  pub births_all : (bs : List (Cell × Content)) (contents : Contents) → HaveNoNames bs → ((cell : Cell) → Each P (items_of (contents cell))) → (cell : Cell) → Each P (items_of (after_births contents bs cell))
  births_all [] contents none h cell = h cell
  births_all (b ∷ bs) contents none h cell = births_all bs (with_content contents b.0 (born_if_absent b.1 (contents b.0))) none.1 (λ other. by_case other (is_eq (cell_cmp other b.0))) cell
    where
      one : (old : Option Content) → Each P (items_of old) → Each P (items_of (born_if_absent b.1 old))
      one None k = subst (λ (items : List Item). Each P items) (sym none.0.none) tt
      one (Some there) k = k

      by_case : (other : Cell) (x : Bool) → Each P (items_of (if x then born_if_absent b.1 (contents b.0) else contents other))
      by_case other true = one (contents b.0) (h b.0)
      by_case other false = h other

  -- ---- ops

  op_all : (contents : Contents) (o : StoreOp) → ((item : Item) (name : List ℕ) → P item → P (renamed item name)) → ((parent : Gfid) (item : Item) (mode : ℕ) (span : Option Span) → o ≡ op.AddName parent item mode span → P item)
      → ((cell : Cell) → Each P (items_of (contents cell))) → (cell : Cell) → Each P (items_of (contents_after contents o cell))
  op_all contents o again added h cell = births_all (births o) (after_edits contents (edits contents o)) (births_have_none o) (edits_all (edits contents o) contents (puts o refl) h) cell
    where
      moved : (item : Option Item) (target : Gfid) (new_name : List ℕ) → ((one : Item) → item ≡ Some one → P one) → Each (λ (e : Cell × Edit). PutsOnly e.1) (moved_in item target new_name)
      moved None target new_name k = tt
      moved (Some one) target new_name k = (again one new_name (k one refl), tt)

      puts : (x : StoreOp) → o ≡ x → Each (λ (e : Cell × Edit). PutsOnly e.1) (edits contents x)
      puts (op.Write gfid offset bytes) e = (tt, tt)
      puts (op.Truncate gfid size) e = (tt, tt)
      puts (op.SetMode gfid mode) e = (tt, tt)
      puts (op.SetAttr gfid attr) e = (tt, tt)
      puts (op.DelAttr gfid name) e = (tt, tt)
      puts (op.AddName parent item mode span) e = (added parent item mode span e, tt)
      puts (op.DropName parent name) e = (tt, tt)
      puts (op.DropDir parent name gfid) e = (tt, (tt, tt))
      puts (op.Move parent name target new_name) e = (tt, moved (item_in contents parent name) target new_name (λ one k. found_is (items_of (contents (names_cell parent))) name one (h (names_cell parent)) k))
      puts (op.MakeCopy gfid span) e = tt

  pub applied_all : (contents : Contents) (o : StoreOp) → ((item : Item) (name : List ℕ) → P item → P (renamed item name)) → ((parent : Gfid) (item : Item) (mode : ℕ) (span : Option Span) → o ≡ op.AddName parent item mode span → P item)
      → ((cell : Cell) → Each P (items_of (contents cell))) → (cell : Cell) → Each P (items_of (applied contents o cell))
  applied_all contents o again added h cell = by_case (fits contents o)
    where
      by_case : (b : Bool) → Each P (items_of ((if b then contents_after contents o else contents) cell))
      by_case true = op_all contents o again added h cell
      by_case false = h cell
