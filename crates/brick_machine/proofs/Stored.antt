-- What an op leaves of a store's contents has an encoding.
use Rattle.std.proofs.Common.{◌≡◌, ◌≤◌, ◌<◌, ◌∙◌, ◌+◌, ◌-◌, ◌++◌, ◌∷◌, ℕ, suc, Bool, true, false, true≢false, List, [], length, take, drop, replicate, refl, ap, sym, subst, arith, length-append}
use Rattle.std.specs.Prelude.{Option, Some, None, IfSome, nat_eq, is_some, if◌then◌else◌}
use Rattle.std.specs.Cmp.Lexicographic.{pointwise}
use Rattle.std.proofs.lemmas.Bool.{ltb-false}
use Rattle.std.proofs.lemmas.List.{length-take, length-drop, length-replicate}
use Rattle.fop_types.specs.Bounds.{Each, Rises, IsHyper, IsMode, IsAttr, attr_cmp, IsSpan, IsItem, IsItemName, item_cmp, IsCell, IsGfid, IsOp}
use Rattle.fop_types.specs.Cells.{data_cell, meta_cell, names_cell}
use Rattle.fop_types.specs.FileBytes.{file_limit, padded, written, resized}
use Rattle.fop_types.specs.Names.{item_named, with_item, without_item, with_attr, without_attr, renamed}
use Rattle.fop_types.specs.StoreOps.{Contents, Edit, edited, edited_if_present, born_if_absent, items_of, item_in, are_present, fits, edits, moved_in, births, born}
use Rattle.fop_types.specs.StoreOps.Edit.{PutBytes, Resize, PutMode, PutAttr, DropAttr, PutItem, DropItem, MarkRemoved}
use Rattle.fop_types.specs.declared.cells.Gfid.{Gfid}
use Rattle.fop_types.specs.declared.cells.Cell.{Cell}
use Rattle.fop_types.specs.declared.cells.Kind.{Kind}
use Rattle.fop_types.specs.declared.cells.Kind.TheVariants.{File, Dir, Link}
use Rattle.fop_types.specs.declared.contents.Attr.{Attr}
use Rattle.fop_types.specs.declared.contents.Item.{Item}
use Rattle.fop_types.specs.declared.contents.Span.{Span}
use Rattle.fop_types.specs.declared.contents.Content.{Content}
use Rattle.fop_types.specs.declared.contents.Content.TheVariants.{Bytes, Meta, Names}
use Rattle.fop_types.specs.declared.store_ops.StoreOp.{StoreOp}
use Rattle.fop_types.specs.declared.store_ops.StoreOp.TheVariants as op
use Rattle.cell_store.specs.declared.kept.Kept.{Kept}
use Rattle.cell_store.specs.Cells.{Cells, kept_at, with_kept, contents_of, edit_of, birth_of, with_edits, with_births, with_op, applied}
use Rattle.brick_machine.specs.Encoded.{IsStored, IsStoredIfThere, IsKept, AreKept}
use Rattle.cell_store.proofs.Looks.{write_ends, size_ends}
use Rattle.brick_machine.specs.Serving.{after_op}
use Rattle.brick_machine.proofs.Kept.{put_kept, kept_there}
use Rattle.brick_machine.proofs.Sorted.{each_put, each_drop, rises_put, rises_drop, with_item_is, without_item_is, with_attr_is, without_attr_is}

-- ---- edits that keep an encoding

abbrev IsLegalEdit : Edit → Type 0
IsLegalEdit (PutBytes offset bytes) = offset + length bytes ≤ file_limit
IsLegalEdit (Resize size) = size ≤ file_limit
IsLegalEdit (PutMode mode) = IsMode mode
IsLegalEdit (PutAttr attr) = IsAttr attr
IsLegalEdit (DropAttr name) = Unit {0}
IsLegalEdit (PutItem item) = IsItem item
IsLegalEdit (DropItem name) = Unit {0}
IsLegalEdit MarkRemoved = Unit {0}

written_short : (bytes new : List ℕ) (offset : ℕ) → offset + length new ≤ file_limit → length bytes ≤ file_limit → length (written bytes offset new) ≤ file_limit
written_short bytes [] offset within short = short
written_short bytes (b ∷ bs) offset within short =
    let front : List ℕ = take offset (padded bytes offset) in
    let rest : List ℕ = drop (offset + length (b ∷ bs)) bytes in
    omega (arith, length-append (front ++ (b ∷ bs)) rest, length-append front (b ∷ bs), within, short, take_most offset (padded bytes offset), length-drop (offset + length (b ∷ bs)) bytes)
  where
    take_most : (n : ℕ) (xs : List ℕ) → length (take n xs) ≤ n
    take_most n xs = omega (arith, length-take n xs)

resized_short : (bytes : List ℕ) (size : ℕ) → size ≤ file_limit → length (resized bytes size) ≤ file_limit
resized_short bytes size within = omega (arith, within, length-take size (padded bytes size))

edit_stored : (e : Edit) (content : Content) → IsLegalEdit e → IsStored content → IsStored (edited e content)
edit_stored (PutBytes offset bytes) (Bytes own) legal stored = written_short own bytes offset legal stored
edit_stored (PutBytes offset bytes) (Meta mode attrs span) legal stored = stored
edit_stored (PutBytes offset bytes) (Names removed items) legal stored = stored
edit_stored (Resize size) (Bytes own) legal stored = resized_short own size legal
edit_stored (Resize size) (Meta mode attrs span) legal stored = stored
edit_stored (Resize size) (Names removed items) legal stored = stored
edit_stored (PutMode mode) (Bytes own) legal stored = stored
edit_stored (PutMode mode) (Meta old attrs span) legal stored = (legal, stored.1, stored.2)
edit_stored (PutMode mode) (Names removed items) legal stored = stored
edit_stored (PutAttr attr) (Bytes own) legal stored = stored
edit_stored (PutAttr attr) (Meta mode attrs span) legal stored = (stored.0, (put_each, put_rises), stored.2)
  where
    put_each : Each IsAttr (with_attr attrs attr)
    put_each = subst (λ (l : List Attr). Each IsAttr l) (sym (with_attr_is attrs attr)) (each_put (λ (a : Attr). a.name) IsAttr attrs attr stored.1.0 legal)

    put_rises : Rises attr_cmp true (with_attr attrs attr)
    put_rises = subst (λ (l : List Attr). Rises attr_cmp true l) (sym (with_attr_is attrs attr)) (rises_put (λ (a : Attr). a.name) None attrs attr tt stored.1.1)
edit_stored (PutAttr attr) (Names removed items) legal stored = stored
edit_stored (DropAttr name) (Bytes own) legal stored = stored
edit_stored (DropAttr name) (Meta mode attrs span) legal stored = (stored.0, (drop_each, drop_rises), stored.2)
  where
    drop_each : Each IsAttr (without_attr attrs name)
    drop_each = subst (λ (l : List Attr). Each IsAttr l) (sym (without_attr_is attrs name)) (each_drop (λ (a : Attr). a.name) IsAttr attrs name stored.1.0)

    drop_rises : Rises attr_cmp true (without_attr attrs name)
    drop_rises = subst (λ (l : List Attr). Rises attr_cmp true l) (sym (without_attr_is attrs name)) (rises_drop (λ (a : Attr). a.name) None attrs name stored.1.1)
edit_stored (DropAttr name) (Names removed items) legal stored = stored
edit_stored (PutItem item) (Bytes own) legal stored = stored
edit_stored (PutItem item) (Meta mode attrs span) legal stored = stored
edit_stored (PutItem item) (Names removed items) legal stored = (put_each, put_rises)
  where
    put_each : Each IsItem (with_item items item)
    put_each = subst (λ (l : List Item). Each IsItem l) (sym (with_item_is items item)) (each_put (λ (i : Item). i.name) IsItem items item stored.0 legal)

    put_rises : Rises item_cmp true (with_item items item)
    put_rises = subst (λ (l : List Item). Rises item_cmp true l) (sym (with_item_is items item)) (rises_put (λ (i : Item). i.name) None items item tt stored.1)
edit_stored (DropItem name) (Bytes own) legal stored = stored
edit_stored (DropItem name) (Meta mode attrs span) legal stored = stored
edit_stored (DropItem name) (Names removed items) legal stored = (drop_each, drop_rises)
  where
    drop_each : Each IsItem (without_item items name)
    drop_each = subst (λ (l : List Item). Each IsItem l) (sym (without_item_is items name)) (each_drop (λ (i : Item). i.name) IsItem items name stored.0)

    drop_rises : Rises item_cmp true (without_item items name)
    drop_rises = subst (λ (l : List Item). Rises item_cmp true l) (sym (without_item_is items name)) (rises_drop (λ (i : Item). i.name) None items name stored.1)
edit_stored MarkRemoved (Bytes own) legal stored = stored
edit_stored MarkRemoved (Meta mode attrs span) legal stored = stored
edit_stored MarkRemoved (Names removed items) legal stored = stored

edit_if_stored : (e : Edit) (o : Option Content) → IsLegalEdit e → IsStoredIfThere o → IsStoredIfThere (edited_if_present e o)
edit_if_stored e None legal stored = tt
edit_if_stored e (Some content) legal stored = edit_stored e content legal stored

born_if_stored : (content : Content) (o : Option Content) → IsStored content → IsStoredIfThere o → IsStoredIfThere (born_if_absent content o)
born_if_stored content None new stored = new
born_if_stored content (Some own) new stored = stored

-- ---- edits and births of a store

edits_kept : (es : List (Cell × Edit)) (cells : Cells) (change : ℕ) → Each (λ e. IsCell e.0 × IsLegalEdit e.1) es → IsHyper change → AreKept cells → AreKept (with_edits cells change es)
edits_kept [] cells change legal fits all = all
edits_kept (e ∷ es) cells change legal fits all =
    let one = kept_there cells e.0 all in
    edits_kept es (with_kept cells e.0 (edit_of (kept_at cells e.0) e.1 change)) change legal.1 fits
    (put_kept cells e.0 (edit_of (kept_at cells e.0) e.1 change) all legal.0.0
    (record { content = edit_if_stored e.1 (kept_at cells e.0).content legal.0.1 one.content; last = fits; dirty = one.dirty; pending = one.pending; five = one.five }))

last_of_birth : (o : Option Content) (last change : ℕ) → IsHyper last → IsHyper change → IsHyper (if is_some o then last else change)
last_of_birth None last change a b = b
last_of_birth (Some own) last change a b = a

births_kept : (bs : List (Cell × Content)) (cells : Cells) (change : ℕ) → Each (λ b. IsCell b.0 × IsStored b.1) bs → IsHyper change → AreKept cells → AreKept (with_births cells change bs)
births_kept [] cells change legal fits all = all
births_kept (b ∷ bs) cells change legal fits all =
    let one = kept_there cells b.0 all in
    births_kept bs (with_kept cells b.0 (birth_of (kept_at cells b.0) b.1 change)) change legal.1 fits
    (put_kept cells b.0 (birth_of (kept_at cells b.0) b.1 change) all legal.0.0
    (record {
      content = born_if_stored b.1 (kept_at cells b.0).content legal.0.1 one.content;
      last = last_of_birth (kept_at cells b.0).content (kept_at cells b.0).last change one.last fits;
      dirty = one.dirty;
      pending = one.pending;
      five = one.five;
    }))

-- ---- ops

born_legal : (kind : Kind) (gfid : Gfid) (mode : ℕ) (span : Option Span) → IsGfid gfid → IsMode mode → IsSpan span → Each (λ b. IsCell b.0 × IsStored b.1) (born kind gfid mode span)
born_legal File gfid mode span g m s = ((g, omega arith), ((g, (m, (tt, tt), s)), tt))
born_legal Dir gfid mode span g m s = ((g, (m, (tt, tt), s)), ((g, (tt, tt)), tt))
born_legal Link gfid mode span g m s = tt

births_legal : (o : StoreOp) → IsOp o → Each (λ b. IsCell b.0 × IsStored b.1) (births o)
births_legal (op.Write gfid offset bytes) legal = tt
births_legal (op.Truncate gfid size) legal = tt
births_legal (op.SetMode gfid mode) legal = tt
births_legal (op.SetAttr gfid attr) legal = tt
births_legal (op.DelAttr gfid name) legal = tt
births_legal (op.AddName parent item mode span) legal = born_legal item.kind item.gfid mode span legal.1.1 legal.2 legal.3
births_legal (op.DropName parent name) legal = tt
births_legal (op.DropDir parent name gfid) legal = tt
births_legal (op.Move parent name target new_name) legal = tt
births_legal (op.MakeCopy gfid span) legal = born_legal Dir gfid 0 span legal.0 (omega arith) legal.1

found_item : (items : List Item) (name : List ℕ) → Each IsItem items → IfSome (item_named items name) IsItem
found_item [] name all = tt
found_item (item ∷ items) name all = by_test (found_item items name all.1) (pointwise nat_eq item.name name)
  where
    by_test : IfSome (item_named items name) IsItem → (b : Bool) → IfSome (if b then Some item else item_named items name) IsItem
    by_test rest true = all.0
    by_test rest false = rest

items_stored : (o : Option Content) → IsStoredIfThere o → Each IsItem (items_of o)
items_stored None stored = tt
items_stored (Some (Bytes bytes)) stored = tt
items_stored (Some (Meta mode attrs span)) stored = tt
items_stored (Some (Names removed items)) stored = stored.0

moved_legal : (o : Option Item) (target : Gfid) (new_name : List ℕ) → IfSome o IsItem → IsGfid target → IsItemName new_name → Each (λ e. IsCell e.0 × IsLegalEdit e.1) (moved_in o target new_name)
moved_legal None target new_name item g n = tt
moved_legal (Some found) target new_name item g n = ((g, (n, item.1, item.2)), tt)

edits_legal : (cells : Cells) (o : StoreOp) → IsOp o → AreKept cells → fits (contents_of cells) o ≡ true → Each (λ e. IsCell e.0 × IsLegalEdit e.1) (edits (contents_of cells) o)
edits_legal cells (op.Write gfid offset bytes) legal all fit = ((legal.0, write_ends (contents_of cells) gfid offset bytes fit), tt)
edits_legal cells (op.Truncate gfid size) legal all fit = ((legal.0, size_ends (contents_of cells) gfid size fit), tt)
edits_legal cells (op.SetMode gfid mode) legal all fit = ((legal.0, legal.1), tt)
edits_legal cells (op.SetAttr gfid attr) legal all fit = ((legal.0, legal.1), tt)
edits_legal cells (op.DelAttr gfid name) legal all fit = ((legal.0, tt), tt)
edits_legal cells (op.AddName parent item mode span) legal all fit = ((legal.0, legal.1), tt)
edits_legal cells (op.DropName parent name) legal all fit = ((legal.0, tt), tt)
edits_legal cells (op.DropDir parent name gfid) legal all fit = ((legal.0, tt), ((legal.2, tt), tt))
edits_legal cells (op.Move parent name target new_name) legal all fit =
    let held = kept_there cells (names_cell parent) all in (
      (legal.0, tt),
      moved_legal (item_in (contents_of cells) parent name) target new_name
          (found_item (items_of (contents_of cells (names_cell parent))) name (items_stored (contents_of cells (names_cell parent)) held.content)) legal.2 legal.3,
    )
edits_legal cells (op.MakeCopy gfid span) legal all fit = tt

pub op_kept : (cells : Cells) (change : ℕ) (o : StoreOp) → IsOp o → IsHyper change → AreKept cells → AreKept (after_op cells (applied cells change o))
op_kept cells change o legal hyper all = by_test (fits (contents_of cells) o) refl
  where
    by_test : (b : Bool) → fits (contents_of cells) o ≡ b → AreKept (after_op cells (if b then Some (with_op cells change o) else None))
    by_test true fit =
        births_kept (births o) (with_edits cells change (edits (contents_of cells) o)) change (births_legal o legal) hyper
        (edits_kept (edits (contents_of cells) o) cells change (edits_legal cells o legal all fit) hyper all)
    by_test false fit = all
