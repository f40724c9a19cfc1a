-- The sets show the flat file system after an op that fits, op by op.
use Rattle.std.proofs.Common.{◌≡◌, ◌≢◌, ◌⊎◌, inl, inr, ◌∙◌, ℕ, ◌+◌, ◌<◌, ◌≤◌, ◌==◌, Bool, true, false, not, ◌&&◌, ◌||◌, List, [], ◌∷◌, Option, Some, None, if◌then◌else◌, length, nat_lt, refl, ap, sym, subst, arith}
use Rattle.std.proofs.Math.Path.{fun_ext}
use Rattle.std.proofs.lemmas.Bool.{and_parts, or_parts, ltb-false}
use Rattle.std.proofs.lemmas.Cmp.{tied_itself}
use Rattle.std.specs.Ordering.{is_eq, match_ordering}
use Rattle.std.specs.declared.cmp.Ordering.{Ordering}
use Rattle.std.specs.declared.cmp.Ordering.TheVariants.{Less, Equal, Greater}
use Rattle.dht_fops.specs.Answers.{added, change_of, Accepts, IsAccepted}
use Rattle.dht_fops.specs.Shown.{SetContents, Homes}
use Rattle.dht_fops.specs.Standing.{Volumes}
use Rattle.fop_types.proofs.MapLemmas.{gfid_cmp_total, gfid_exact, cell_exact}
use Rattle.fop_types.specs.Bounds.{Each}
use Rattle.fop_types.specs.Cells.{data_cell, meta_cell, names_cell}
use Rattle.fop_types.specs.FileBytes.{file_limit, written, resized}
use Rattle.fop_types.specs.Files.{Files, object_at, with_object, names_at, names_of, with_names, with_removed, object_with_names, object_with_mode, object_with_attrs, object_attrs, new_file, new_directory}
use Rattle.fop_types.specs.Flat.{Outcome, flat, item_of, with_new, without_name, with_name, files_in}
use Rattle.fop_types.specs.Flat.Outcome.{Answers, Changes}
use Rattle.fop_types.specs.Names.{item_named, with_item, without_item, has_real_name, with_attr, without_attr, renamed, is_link, is_directory}
use Rattle.fop_types.specs.Orders.{gfid_cmp, cell_cmp}
use Rattle.fop_types.specs.StoreOps.{Contents, Edit, needs, both_names, born, births, is_unfit, is_removed, is_taken, is_that_directory, item_in, items_of, holds, holds_names, are_present, fits, edits, moved_in, with_content, edited, edited_if_present, after_edits, born_if_absent, after_births, contents_after}
use Rattle.fop_types.specs.StoreOps.Edit.{PutBytes, Resize, PutMode, PutAttr, DropAttr, PutItem, DropItem, MarkRemoved}
use Rattle.fop_types.specs.declared.answers.Answer.{Answer}
use Rattle.fop_types.specs.declared.cells.Aspect.{Aspect}
use Rattle.fop_types.specs.declared.cells.Cell.{Cell}
use Rattle.fop_types.specs.declared.cells.Gfid.{Gfid}
use Rattle.fop_types.specs.declared.cells.Kind.{Kind}
use Rattle.fop_types.specs.declared.cells.Kind.TheVariants as kind
use Rattle.fop_types.specs.declared.contents.Attr.{Attr}
use Rattle.fop_types.specs.declared.contents.Content.{Content}
use Rattle.fop_types.specs.declared.contents.Content.TheVariants.{Bytes, Meta, Names}
use Rattle.fop_types.specs.declared.contents.Item.{Item}
use Rattle.fop_types.specs.declared.contents.Span.{Span}
use Rattle.fop_types.specs.declared.flat.FlatAnswer.{FlatAnswer}
use Rattle.fop_types.specs.declared.flat.FlatObject.{FlatObject}
use Rattle.fop_types.specs.declared.flat.FlatObject.TheVariants.{File, Directory}
use Rattle.fop_types.specs.declared.flat.FlatOp.{FlatOp}
use Rattle.fop_types.specs.declared.flat.FlatOp.TheVariants as flat_op
use Rattle.fop_types.specs.declared.history.Entry.{Entry}
use Rattle.fop_types.specs.declared.store_ops.StoreOp.{StoreOp}
use Rattle.fop_types.specs.declared.store_ops.StoreOp.TheVariants as op
use Rattle.mount_files.proofs.Accepting.{object_here, object_off, names_here, names_off, removed_here, removed_off, IsOpen, IsAdded, added_is, IsDropped, dropped_is, IsRemovedDir, removed_is, IsMoved, moved_is, IsChanged, IsRewritten, chmod_is, setattr_is, delattr_is, write_is, truncate_is}
use Rattle.mount_files.proofs.Cells.{put_at, put_in, put_off, put_here, content_off, content_here, set_here, set_off, number_is, meta_names}
use Rattle.mount_files.proofs.Families.{IsItemAt, IsTaken, taken_item, over_here, over_free}
use Rattle.mount_files.proofs.Local.{Column, column, items_in, names_in, ShownOf, AllShown, gfid_is, to_local, from_local}
use Rattle.mount_files.proofs.Making.{births_off, born_of_others, making, new_object, new_step, copying, copy_step, removing, mark_step}
use Rattle.mount_files.proofs.Naming.{kind_file, kind_directory, IsDirectory, directory_made, directory_named, IsOpenDirectory, open_directory, Renames, renames, putting, dropping, put_step, drop_step, put_link, drop_link}
use Rattle.mount_files.proofs.Objects.{written_short, resized_short, IsFile, file_made, bytes_step, with_meta, edit_meta}
use Rattle.afr_machine.specs.Replicas.{with_at}
use Rattle.mount_laws.specs.Steps.{with_kind, with_home, kinds_after, homes_after, by_effect, applied}
use Rattle.mount_files.specs.Showing.{files_with, after_op, IsOn, IsNew, IsThere, IsNowhereElse, IsPlaced, IsUnshown, Stands, FitsNow, OneOp, ShownIsFlat}

-- ---- what fits

pub fit_parts : (contents : Contents) (o : StoreOp) → fits contents o ≡ true → (are_present contents (needs o) ≡ true) × (is_unfit contents o ≡ false)
fit_parts contents o e =
    let p = and_parts (are_present contents (needs o)) (not (is_unfit contents o)) e in
    (p.0, unfit_by (is_unfit contents o) p.1)
  where
    unfit_by : (b : Bool) → not b ≡ true → b ≡ false
    unfit_by true f = absurd cc
    unfit_by false f = refl

pub first_present : (contents : Contents) (cell : Cell) (cells : List Cell) → are_present contents (cell ∷ cells) ≡ true → (holds cell.aspect (contents cell) ≡ true) × (are_present contents cells ≡ true)
first_present contents cell cells e = by_case (holds cell.aspect (contents cell)) refl e
  where
    by_case : (b : Bool) → holds cell.aspect (contents cell) ≡ b → (if b then are_present contents cells else false) ≡ true → (holds cell.aspect (contents cell) ≡ true) × (are_present contents cells ≡ true)
    by_case true f g = (f, g)
    by_case false f g = absurd cc

pub both_present : (contents : Contents) (a b : Gfid) → are_present contents (both_names a b) ≡ true → (holds_names (contents (names_cell a)) ≡ true) × (holds_names (contents (names_cell b)) ≡ true)
both_present contents a b e = by_order (gfid_cmp a b) refl e
  where
    by_order : (r : Ordering) → gfid_cmp a b ≡ r → are_present contents (match_ordering r (names_cell a ∷ names_cell b ∷ []) (names_cell a ∷ []) (names_cell b ∷ names_cell a ∷ [])) ≡ true
        → (holds_names (contents (names_cell a)) ≡ true) × (holds_names (contents (names_cell b)) ≡ true)
    by_order Less f g = let p = first_present contents (names_cell a) (names_cell b ∷ []) g in (p.0, (first_present contents (names_cell b) [] p.1).0)
    by_order Equal f g =
        let p = first_present contents (names_cell a) [] g in
        (p.0, subst (λ (x : Gfid). holds_names (contents (names_cell x)) ≡ true) (gfid_exact a b f) p.0)
    by_order Greater f g = let p = first_present contents (names_cell b) (names_cell a ∷ []) g in ((first_present contents (names_cell a) [] p.1).0, p.0)

pub applied_is : (contents : Contents) (o : StoreOp) → fits contents o ≡ true → applied contents o ≡ contents_after contents o
applied_is contents o e = ap (λ (b : Bool). if b then contents_after contents o else contents) e

-- ---- the state that an op leads to

arrives : (s : Volumes) (count set : ℕ) (o : StoreOp) (effect : Option Entry) (t : Volumes) → fits (s.contents set) o ≡ true → AllShown t count
    → t.contents ≡ with_at s.contents set (contents_after (s.contents set) o) → t.homes ≡ by_effect effect s.homes (homes_after s.homes set o) → t.kinds ≡ by_effect effect s.kinds (kinds_after s.kinds o)
    → t.files ≡ by_effect effect s.files (files_with s.files (change_of o)) → AllShown (after_op s set o effect) count
arrives s count set o effect t fit all c h k f =
    subst (λ (x : Files). AllShown (record { contents = with_at s.contents set (applied (s.contents set) o); homes = by_effect effect s.homes (homes_after s.homes set o); kinds = by_effect effect s.kinds (kinds_after s.kinds o); files = x }) count) f
    (subst (λ (x : Gfid → Option Kind). AllShown (record { contents = with_at s.contents set (applied (s.contents set) o); homes = by_effect effect s.homes (homes_after s.homes set o); kinds = x; files = t.files }) count) k
    (subst (λ (x : Homes). AllShown (record { contents = with_at s.contents set (applied (s.contents set) o); homes = x; kinds = t.kinds; files = t.files }) count) h
    (subst (λ (x : SetContents). AllShown (record { contents = x; homes = t.homes; kinds = t.kinds; files = t.files }) count)
    (c ∙ ap (λ (x : Contents). with_at s.contents set x) (sym (applied_is (s.contents set) o fit))) all)))

accepted_files : (files : Files) (f : FlatOp) (a : FlatAnswer) (after : Files) → flat files f ≡ Changes a after → after ≡ files_with files (Some f)
accepted_files files f a after e = sym (ap (λ (x : Outcome). files_in x files) e)

equal_is : (o : Ordering) → is_eq o ≡ true → o ≡ Equal
equal_is Less e = absurd cc
equal_is Equal e = refl
equal_is Greater e = absurd cc

pub cell_is : (a b : Cell) → is_eq (cell_cmp a b) ≡ true → a ≡ b
cell_is a b e = cell_exact a b (equal_is (cell_cmp a b) e)

-- ---- contents after two edits

put_twice : (contents : SetContents) (set : ℕ) (new : Contents) (cell : Cell) (e : Edit)
    → put_at (with_at contents set new) set cell (edited_if_present e (with_at contents set new set cell)) ≡ with_at contents set (with_content new cell (edited_if_present e (new cell)))
put_twice contents set new cell e =
    ap (λ (c : Contents). with_at (with_at contents set new) set (with_content c cell (edited_if_present e (c cell)))) (set_here contents set new)
    ∙ fun_ext (λ o. by_case o (o == set))
  where
    by_case : (o : ℕ) (b : Bool) → (if b then with_content new cell (edited_if_present e (new cell)) else (if b then new else contents o)) ≡ (if b then with_content new cell (edited_if_present e (new cell)) else contents o)
    by_case o true = refl
    by_case o false = refl

swapped : (contents : Contents) (a b : Cell) (x y : Option Content) → a ≢ b → with_content (with_content contents a x) b y ≡ with_content (with_content contents b y) a x
swapped contents a b x y d = fun_ext (λ cell. by_case cell (is_eq (cell_cmp cell a)) (is_eq (cell_cmp cell b)) refl refl)
  where
    both : (cell : Cell) → is_eq (cell_cmp cell a) ≡ true → is_eq (cell_cmp cell b) ≡ true → a ≡ b
    both cell e f = sym (cell_is cell a e) ∙ cell_is cell b f

    by_case : (cell : Cell) (p q : Bool) → is_eq (cell_cmp cell a) ≡ p → is_eq (cell_cmp cell b) ≡ q → (if q then y else (if p then x else contents cell)) ≡ (if p then x else (if q then y else contents cell))
    by_case cell true true e f = absurd (d (both cell e f))
    by_case cell true false e f = refl
    by_case cell false true e f = refl
    by_case cell false false e f = refl

births_swap : (bs : List (Cell × Content)) (contents : Contents) (cell : Cell) (x : Option Content) → Each (λ (b : Cell × Content). cell ≢ b.0) bs → after_births (with_content contents cell x) bs ≡ with_content (after_births contents bs) cell x
births_swap [] contents cell x off = refl
births_swap (b ∷ bs) contents cell x off =
    ap (λ (c : Option Content). after_births (with_content (with_content contents cell x) b.0 (born_if_absent b.1 c)) bs) (content_off contents cell b.0 x (λ e. off.0 (sym e)))
    ∙ ap (λ (c : Contents). after_births c bs) (swapped contents cell b.0 x (born_if_absent b.1 (contents b.0)) off.0)
    ∙ births_swap bs (with_content contents b.0 (born_if_absent b.1 (contents b.0))) cell x off.1

born_then_put : (contents : Contents) (bs : List (Cell × Content)) (cell : Cell) (e : Edit) → Each (λ (b : Cell × Content). cell ≢ b.0) bs
    → with_content (after_births contents bs) cell (edited_if_present e (after_births contents bs cell)) ≡ after_births (with_content contents cell (edited_if_present e (contents cell))) bs
born_then_put contents bs cell e off =
    ap (λ (c : Option Content). with_content (after_births contents bs) cell (edited_if_present e c)) (births_off bs contents cell off)
    ∙ sym (births_swap bs contents cell (edited_if_present e (contents cell)) off)

-- ---- ops on one object

abbrev remade : (List ℕ → List ℕ) → Option FlatObject → Option FlatObject
remade change None = None
remade change (Some (File bytes mode attrs)) = Some (File (change bytes) mode attrs)
remade change (Some (Directory names mode attrs removed)) = Some (Directory names mode attrs removed)

rewritten_step : (s : Volumes) (count set : ℕ) (g : Gfid) (e : Edit) (change : List ℕ → List ℕ) (after : Files) → AllShown s count → IsOn s set g → IsRewritten s.files g change after
    → ((bytes : List ℕ) → edited e (Bytes bytes) ≡ Bytes (change bytes)) → ((bytes : List ℕ) → length bytes ≤ file_limit → length (change bytes) ≤ file_limit)
    → AllShown (put_in s set (data_cell g) (edited_if_present e (s.contents set (data_cell g))) after) count
rewritten_step s count set g e change after all on w by short =
    bytes_step s count set g e change after all f by (short f.body.bytes) object (λ q d. ap (λ (x : Files). object_at x q) (sym w.after_is) ∙ object_off s.files g q (File (change w.bytes) w.mode w.attrs) d)
  where
    f : IsFile s set g
    f =
        let k = kind_file count (s.kinds g) (s.contents (s.homes g) (data_cell g)) (s.contents (s.homes g) (meta_cell g)) (s.contents 0 (meta_cell g)) (column s.contents (names_cell g)) w.bytes w.mode w.attrs (sym (all g).object_is ∙ w.object_is) in
        file_made s count set g (all g) k (on.file k)

    object : object_at after g ≡ Some (File (change f.body.bytes) f.meta.mode f.meta.attrs)
    object =
        ap (λ (x : Files). object_at x g) (sym w.after_is) ∙ object_here s.files g (File (change w.bytes) w.mode w.attrs)
        ∙ ap (remade change) (sym w.object_is ∙ f.object_is)

mode_meta : (o : FlatObject) (mode : ℕ) → object_with_mode o mode ≡ with_meta (λ m. mode) (λ l. l) o
mode_meta (File bytes old attrs) mode = refl
mode_meta (Directory names old attrs removed) mode = refl

attrs_meta : (o : FlatObject) (h : List Attr → List Attr) → object_with_attrs o (h (object_attrs o)) ≡ with_meta (λ m. m) h o
attrs_meta (File bytes mode attrs) h = refl
attrs_meta (Directory names mode attrs removed) h = refl

meta_step : (s : Volumes) (count set : ℕ) (g : Gfid) (e : Edit) (f : ℕ → ℕ) (h : List Attr → List Attr) (change : FlatObject → FlatObject) (after : Files) → AllShown s count → IsOn s set g → IsChanged s.files g change after
    → ((mode : ℕ) (attrs : List Attr) (span : Option Span) → edited e (Meta mode attrs span) ≡ Meta (f mode) (h attrs) span) → ((o : FlatObject) → change o ≡ with_meta f h o)
    → AllShown (put_in s set (meta_cell g) (edited_if_present e (s.contents set (meta_cell g))) after) count
meta_step s count set g e f h change after all on w by same =
    edit_meta s count set g e f h after w.object all by on.file on.directory w.object_is
    (ap (λ (x : Files). object_at x g) (sym w.after_is) ∙ object_here s.files g (change w.object) ∙ ap (λ (o : FlatObject). Some o) (same w.object))
    (λ q d. ap (λ (x : Files). object_at x q) (sym w.after_is) ∙ object_off s.files g q (change w.object) d)

-- ---- a name that is added with its object

-- the files after an item of a new object was added
record IsAddedNew (files : Files) (parent : Gfid) (item : Item) (mode : ℕ) (after : Files) : Type 0 where
  open_at : IsOpen (object_at files parent) item.name
  free : item_named (names_at files parent) item.name ≡ None
  after_is : with_new files parent item (new_object item.kind mode) ≡ after
  no_link : is_link item.kind ≡ false

abbrev target_of : Item → List ℕ → Item
target_of item x = record item { target = x }

item_is : (item : Item) (k : Kind) → item.kind ≡ k → item.target ≡ [] → item_of item.name item.gfid k ≡ item
item_is item k e t = ap (λ (x : Kind). item_of item.name item.gfid x) (sym e) ∙ ap (target_of item) (sym t)

added_new : (files : Files) (parent : Gfid) (item : Item) (mode : ℕ) (a : Accepts files (added parent item mode item.kind)) → item.target ≡ [] → (after : Files) → after ≡ files_with files (added parent item mode item.kind) → IsAddedNew files parent item mode after
added_new files parent item mode a t after f = by_kind item.kind refl a f
  where
    made : (k : Kind) (o : FlatObject) → item.kind ≡ k → o ≡ new_object item.kind mode → is_link k ≡ false → IsAdded files parent item.name (with_new files parent (item_of item.name item.gfid k) o) after → IsAddedNew files parent item mode after
    made k o e n l w = record {
      open_at = w.open_at;
      free = w.free;
      after_is = ap (λ (x : FlatObject). with_new files parent item x) (sym n) ∙ ap (λ (i : Item). with_new files parent i o) (sym (item_is item k e t)) ∙ w.after_is;
      no_link = ap is_link e ∙ l;
    }

    by_kind : (k : Kind) → item.kind ≡ k → Accepts files (added parent item mode k) → after ≡ files_with files (added parent item mode k) → IsAddedNew files parent item mode after
    by_kind kind.File e b g =
        made kind.File (new_file mode) e (ap (λ (k : Kind). new_object k mode) (sym e)) refl
        (added_is files parent item.name (with_new files parent (item_of item.name item.gfid kind.File) (new_file mode)) b.answer after (b.accepted ∙ ap (λ (x : Files). Changes b.answer x) (accepted_files files (flat_op.Create parent item.name mode item.gfid) b.answer b.after b.accepted ∙ sym g)))
    by_kind kind.Dir e b g =
        made kind.Dir (new_directory mode) e (ap (λ (k : Kind). new_object k mode) (sym e)) refl
        (added_is files parent item.name (with_new files parent (item_of item.name item.gfid kind.Dir) (new_directory mode)) b.answer after (b.accepted ∙ ap (λ (x : Files). Changes b.answer x) (accepted_files files (flat_op.Mkdir parent item.name mode item.gfid) b.answer b.after b.accepted ∙ sym g)))
    by_kind kind.Link e b g = absurd b

module _ (s : Volumes) (count set : ℕ) (parent : Gfid) (item : Item) (mode : ℕ) (span : Option Span) (after : Files) (all : AllShown s count) (low : set < count) (held : holds_names (s.contents set (names_cell parent)) ≡ true)
    (new : IsNew s set item) (w : IsAddedNew s.files parent item mode after) where
  dir : IsOpenDirectory s count parent
  dir = open_directory s count parent w.open_at.names w.open_at.mode w.open_at.attrs (all parent) w.open_at.object_is

  differ : parent ≢ item.gfid
  differ e = let none : s.kinds parent ≡ None = ap s.kinds e ∙ new.unmade in let some = dir.directory.kind_is in absurd cc

  no_link : item.kind ≡ kind.Link → ⊥
  no_link e = let l = w.no_link in let no : is_link item.kind ≡ true = ap is_link e in absurd cc

  all_born : AllShown (making s set item.gfid item.kind mode span (with_object s.files item.gfid (new_object item.kind mode))) count
  all_born = new_step s count set item.gfid item.kind mode span (with_object s.files item.gfid (new_object item.kind mode)) all new.unmade new.absent new.directory no_link
      (object_here s.files item.gfid (new_object item.kind mode)) (λ q d. object_off s.files item.gfid q (new_object item.kind mode) d)

  parent_object : object_at (with_object s.files item.gfid (new_object item.kind mode)) parent ≡ object_at s.files parent
  parent_object = object_off s.files item.gfid parent (new_object item.kind mode) differ

  dir_born : IsOpenDirectory (making s set item.gfid item.kind mode span (with_object s.files item.gfid (new_object item.kind mode))) count parent
  dir_born = open_directory (making s set item.gfid item.kind mode span (with_object s.files item.gfid (new_object item.kind mode))) count parent w.open_at.names w.open_at.mode w.open_at.attrs (all_born parent) (parent_object ∙ w.open_at.object_is)

  off : Each (λ (b : Cell × Content). names_cell parent ≢ b.0) (born item.kind item.gfid mode span)
  off = born_of_others item.kind item.gfid mode span (names_cell parent) differ

  content_born : with_at s.contents set (after_births (s.contents set) (born item.kind item.gfid mode span)) set (names_cell parent) ≡ s.contents set (names_cell parent)
  content_born = ap (λ (c : Contents). c (names_cell parent)) (set_here s.contents set (after_births (s.contents set) (born item.kind item.gfid mode span))) ∙ births_off (born item.kind item.gfid mode span) (s.contents set) (names_cell parent) off

  made : IsItemAt (with_kind s.kinds item.gfid item.kind) (with_home s.homes item.gfid set) set item
  made = record {
    made = ap (λ (b : Bool). if b then Some item.kind else s.kinds item.gfid) (ap is_eq (tied_itself gfid_cmp_total item.gfid));
    at_home = λ k. ap (λ (b : Bool). if b then set else s.homes item.gfid) (ap is_eq (tied_itself gfid_cmp_total item.gfid));
    on_first = new.directory;
  }

  free : (o : ℕ) → o ≢ set → is_taken (item_named (items_of (with_at s.contents set (after_births (s.contents set) (born item.kind item.gfid mode span)) o (names_cell parent))) item.name) ≡ false
  free o d =
      ap (λ (c : Contents). is_taken (item_named (items_of (c (names_cell parent))) item.name)) (set_off s.contents set o (after_births (s.contents set) (born item.kind item.gfid mode span)) d)
      ∙ over_free s.kinds s.homes count (is_removed (s.contents 0 (names_cell parent))) (items_in (column s.contents (names_cell parent))) item.name o (all parent).names
      (ap (λ (l : List Item). item_named l item.name) (sym (directory_named s count parent dir.directory)) ∙ w.free)

  listed : Renames (with_object s.files item.gfid (new_object item.kind mode)) after parent (with_item (names_at (with_object s.files item.gfid (new_object item.kind mode)) parent) item)
  listed = record { here = here; others = others }
    where
      here : (o : FlatObject) → object_at (with_object s.files item.gfid (new_object item.kind mode)) parent ≡ Some o
          → object_at after parent ≡ Some (object_with_names o (with_item (names_at (with_object s.files item.gfid (new_object item.kind mode)) parent) item))
      here o e =
          ap (λ (x : Files). object_at x parent) (sym w.after_is)
          ∙ object_off (with_names s.files parent (with_item (names_at s.files parent) item)) item.gfid parent (new_object item.kind mode) differ
          ∙ names_here s.files parent o (with_item (names_at s.files parent) item) (sym parent_object ∙ e)
          ∙ ap (λ (x : Option FlatObject). Some (object_with_names o (with_item (names_of x) item))) (sym parent_object)

      others : (q : Gfid) → q ≢ parent → object_at after q ≡ object_at (with_object s.files item.gfid (new_object item.kind mode)) q
      others q d = ap (λ (x : Files). object_at x q) (sym w.after_is) ∙ by_case (gfid_is q item.gfid)
        where
          by_case : (q ≡ item.gfid) ⊎ (q ≢ item.gfid) → object_at (with_object (with_names s.files parent (with_item (names_at s.files parent) item)) item.gfid (new_object item.kind mode)) q ≡ object_at (with_object s.files item.gfid (new_object item.kind mode)) q
          by_case (inl e) =
              subst (λ (x : Gfid). object_at (with_object (with_names s.files parent (with_item (names_at s.files parent) item)) item.gfid (new_object item.kind mode)) x ≡ object_at (with_object s.files item.gfid (new_object item.kind mode)) x) (sym e)
              (object_here (with_names s.files parent (with_item (names_at s.files parent) item)) item.gfid (new_object item.kind mode) ∙ sym (object_here s.files item.gfid (new_object item.kind mode)))
          by_case (inr f) =
              object_off (with_names s.files parent (with_item (names_at s.files parent) item)) item.gfid q (new_object item.kind mode) f ∙ names_off s.files parent q (with_item (names_at s.files parent) item) d
              ∙ sym (object_off s.files item.gfid q (new_object item.kind mode) f)

  add_step : AllShown (putting (making s set item.gfid item.kind mode span (with_object s.files item.gfid (new_object item.kind mode))) set parent item after) count
  add_step = put_step (making s set item.gfid item.kind mode span (with_object s.files item.gfid (new_object item.kind mode))) count set parent item after all_born dir_born (ap holds_names content_born ∙ held) w.no_link made low free listed

  add_contents : put_at (with_at s.contents set (after_births (s.contents set) (born item.kind item.gfid mode span))) set (names_cell parent)
      (edited_if_present (PutItem item) (with_at s.contents set (after_births (s.contents set) (born item.kind item.gfid mode span)) set (names_cell parent)))
      ≡ with_at s.contents set (contents_after (s.contents set) (op.AddName parent item mode span))
  add_contents =
      put_twice s.contents set (after_births (s.contents set) (born item.kind item.gfid mode span)) (names_cell parent) (PutItem item)
      ∙ ap (λ (c : Contents). with_at s.contents set c) (born_then_put (s.contents set) (born item.kind item.gfid mode span) (names_cell parent) (PutItem item) off)

-- ---- a directory that is removed

pub record IsThat (x : Option Item) (g : Gfid) : Type 0 where
  pub item : Item
  pub item_is : x ≡ Some item
  pub is_dir : item.kind ≡ kind.Dir
  pub gfid_is : item.gfid ≡ g

pub not_not : (b : Bool) → not b ≡ false → b ≡ true
not_not true f = refl
not_not false f = absurd cc

pub that_directory : (x : Option Item) (g : Gfid) → is_that_directory x g ≡ true → IsThat x g
that_directory None g e = absurd cc
that_directory (Some item) g e =
    let p = and_parts (is_directory item.kind) (is_eq (gfid_cmp item.gfid g)) e in
    record { item = item; item_is = refl; is_dir = dir_by item.kind p.0; gfid_is = gfid_exact item.gfid g (equal_is (gfid_cmp item.gfid g) p.1) }
  where
    dir_by : (k : Kind) → is_directory k ≡ true → k ≡ kind.Dir
    dir_by kind.File e = absurd cc
    dir_by kind.Dir e = refl
    dir_by kind.Link e = absurd cc

some_is : (a b : Item) (x : Option Item) → x ≡ Some a → x ≡ Some b → a ≡ b
some_is a b x e f = let g : ◌≡◌ {A = Option Item} (Some a) (Some b) = sym e ∙ f in cc

-- the item of a name on a set is the one that is shown
pub shown_item : (s : Volumes) (count set : ℕ) (d : Gfid) (name : List ℕ) (a b : Item) → AllShown s count → IsDirectory s count d → item_in (s.contents set) d name ≡ Some a → is_link a.kind ≡ false → item_named (names_at s.files d) name ≡ Some b → a ≡ b
shown_item s count set d name a b all dir e l f =
    some_is a b (item_named (names_at s.files d) name)
    (ap (λ (names : List Item). item_named names name) (directory_named s count d dir) ∙ over_here s.kinds s.homes count (is_removed (s.contents 0 (names_cell d))) (items_in (column s.contents (names_cell d))) name set a (all d).names e l) f

module _ (s : Volumes) (count set : ℕ) (parent : Gfid) (name : List ℕ) (g : Gfid) (after : Files) (all : AllShown s count) (present : are_present (s.contents set) (both_names parent g) ≡ true)
    (that : IsThat (item_in (s.contents set) parent name) g) (w : IsRemovedDir s.files parent name after) where
  parent_dir : IsOpenDirectory s count parent
  parent_dir = open_directory s count parent w.open_at.names w.open_at.mode w.open_at.attrs (all parent) w.open_at.object_is

  no_link_there : is_link that.item.kind ≡ false
  no_link_there = ap is_link that.is_dir

  made_there : IsItemAt s.kinds s.homes set that.item
  made_there = (all parent).names.made name set that.item that.item_is no_link_there

  first : set ≡ 0
  first = made_there.on_first that.is_dir

  gfid_there : w.item.gfid ≡ g
  gfid_there = ap (λ (i : Item). i.gfid) (sym (shown_item s count set parent name that.item w.item all parent_dir.directory that.item_is no_link_there w.named)) ∙ that.gfid_is

  kind_there : s.kinds g ≡ Some kind.Dir
  kind_there = ap s.kinds (sym that.gfid_is) ∙ made_there.made ∙ ap (λ (k : Kind). Some k) that.is_dir

  other_dir : g ≢ parent
  other_dir e =
      let none : item_named (names_at s.files parent) name ≡ None = ap (λ (x : Gfid). item_named (names_at s.files x) name) (sym e ∙ sym gfid_there) ∙ ap (λ (l : List Item). item_named l name) w.empty in
      let some = w.named in absurd cc

  all_dropped : AllShown (dropping s set parent name (without_name s.files parent name)) count
  all_dropped = drop_step s count set parent name (without_name s.files parent name) all parent_dir.directory (ap is_taken that.item_is ∙ ap not no_link_there) (renames s.files parent (without_item (names_at s.files parent) name))

  dir_dropped : IsDirectory (dropping s set parent name (without_name s.files parent name)) count g
  dir_dropped = directory_made (dropping s set parent name (without_name s.files parent name)) count g (all_dropped g) kind_there

  held_dropped : (o : ℕ) → set ≡ o → holds_names ((dropping s set parent name (without_name s.files parent name)).contents o (names_cell g)) ≡ true
  held_dropped o e =
      ap (λ (c : Column). holds_names (c o)) (put_off s.contents set (names_cell parent) (names_cell g) (edited_if_present (DropItem name) (s.contents set (names_cell parent))) (λ f. other_dir (ap (λ (c : Cell). c.gfid) f)))
      ∙ ap (λ (x : ℕ). holds_names (s.contents x (names_cell g))) (sym e) ∙ (both_present (s.contents set) parent g present).1

  none_dropped : names_in count (column (dropping s set parent name (without_name s.files parent name)).contents (names_cell g)) ≡ []
  none_dropped =
      sym (directory_named (dropping s set parent name (without_name s.files parent name)) count g dir_dropped)
      ∙ ap names_of (names_off s.files parent g (without_item (names_at s.files parent) name) other_dir) ∙ ap (λ (x : Gfid). names_at s.files x) (sym gfid_there) ∙ w.empty

  files_is : with_removed (without_name s.files parent name) g ≡ after
  files_is = ap (λ (x : Gfid). with_removed (without_name s.files parent name) x) (sym gfid_there) ∙ w.after_is

  remove_step : AllShown (removing (dropping s set parent name (without_name s.files parent name)) g after) count
  remove_step = mark_step (dropping s set parent name (without_name s.files parent name)) count g after all_dropped dir_dropped (held_dropped 0 first) none_dropped
      (ap (λ (x : Files). object_at x g) (sym files_is) ∙ removed_here (without_name s.files parent name) g _ dir_dropped.object_is)
      (λ q d. ap (λ (x : Files). object_at x q) (sym files_is) ∙ removed_off (without_name s.files parent name) g q d)

  remove_contents : put_at (dropping s set parent name (without_name s.files parent name)).contents 0 (names_cell g) (edited_if_present MarkRemoved ((dropping s set parent name (without_name s.files parent name)).contents 0 (names_cell g)))
      ≡ with_at s.contents set (contents_after (s.contents set) (op.DropDir parent name g))
  remove_contents =
      ap (λ (x : ℕ). put_at (dropping s set parent name (without_name s.files parent name)).contents x (names_cell g) (edited_if_present MarkRemoved ((dropping s set parent name (without_name s.files parent name)).contents x (names_cell g)))) (sym first)
      ∙ put_twice s.contents set (with_content (s.contents set) (names_cell parent) (edited_if_present (DropItem name) (s.contents set (names_cell parent)))) (names_cell g) MarkRemoved

-- ---- a file's name that is moved

module _ (s : Volumes) (count set : ℕ) (parent : Gfid) (name : List ℕ) (target : Gfid) (new_name : List ℕ) (after : Files) (all : AllShown s count) (low : set < count) (present : are_present (s.contents set) (both_names parent target) ≡ true)
    (there : IsThere s set parent name) (nowhere : IsNowhereElse s set target new_name) (w : IsMoved s.files parent name target new_name after) where
  source_dir : IsOpenDirectory s count parent
  source_dir = open_directory s count parent w.open_at.names w.open_at.mode w.open_at.attrs (all parent) w.open_at.object_is

  taken : IsTaken (item_in (s.contents set) parent name)
  taken = taken_item (item_in (s.contents set) parent name) there

  item_shown : taken.item ≡ w.item
  item_shown = shown_item s count set parent name taken.item w.item all source_dir.directory taken.item_is taken.no_link w.named

  item_there : item_in (s.contents set) parent name ≡ Some w.item
  item_there = taken.item_is ∙ ap (λ (i : Item). Some i) item_shown

  no_link_moved : is_link w.item.kind ≡ false
  no_link_moved = ap (λ (i : Item). is_link i.kind) (sym item_shown) ∙ taken.no_link

  made_moved : IsItemAt s.kinds s.homes set w.item
  made_moved = (all parent).names.made name set w.item item_there no_link_moved

  all_left : AllShown (dropping s set parent name (without_name s.files parent name)) count
  all_left = drop_step s count set parent name (without_name s.files parent name) all source_dir.directory there (renames s.files parent (without_item (names_at s.files parent) name))

  target_object : (x : Option FlatObject) → object_at s.files target ≡ x → (o : IsOpen x new_name) → IsOpenDirectory (dropping s set parent name (without_name s.files parent name)) count target
  target_object x e o = by_case (gfid_is target parent)
    where
      by_case : (target ≡ parent) ⊎ (target ≢ parent) → IsOpenDirectory (dropping s set parent name (without_name s.files parent name)) count target
      by_case (inl f) =
          open_directory (dropping s set parent name (without_name s.files parent name)) count target (without_item (names_at s.files parent) name) o.mode o.attrs (all_left target)
          (subst (λ (y : Gfid). object_at (without_name s.files parent name) y ≡ Some (Directory (without_item (names_at s.files parent) name) o.mode o.attrs false)) (sym f)
          (names_here s.files parent (Directory o.names o.mode o.attrs false) (without_item (names_at s.files parent) name) (ap (λ (y : Gfid). object_at s.files y) (sym f) ∙ e ∙ o.object_is)))
      by_case (inr d) = open_directory (dropping s set parent name (without_name s.files parent name)) count target o.names o.mode o.attrs (all_left target) (names_off s.files parent target (without_item (names_at s.files parent) name) d ∙ e ∙ o.object_is)

  still_names : (c : Option Content) → holds_names (edited_if_present (DropItem name) c) ≡ holds_names c
  still_names None = refl
  still_names (Some (Bytes bytes)) = refl
  still_names (Some (Meta mode attrs span)) = refl
  still_names (Some (Names removed items)) = refl

  held_left : holds_names ((dropping s set parent name (without_name s.files parent name)).contents set (names_cell target)) ≡ true
  held_left = by_case (gfid_is target parent)
    where
      by_case : (target ≡ parent) ⊎ (target ≢ parent) → holds_names ((dropping s set parent name (without_name s.files parent name)).contents set (names_cell target)) ≡ true
      by_case (inl f) =
          subst (λ (y : Gfid). holds_names ((dropping s set parent name (without_name s.files parent name)).contents set (names_cell y)) ≡ true) (sym f)
          (ap holds_names (put_here s.contents set (names_cell parent) (edited_if_present (DropItem name) (s.contents set (names_cell parent)))) ∙ still_names (s.contents set (names_cell parent)) ∙ (both_present (s.contents set) parent target present).0)
      by_case (inr d) =
          ap (λ (c : Column). holds_names (c set)) (put_off s.contents set (names_cell parent) (names_cell target) (edited_if_present (DropItem name) (s.contents set (names_cell parent))) (λ f. d (ap (λ (c : Cell). c.gfid) f)))
          ∙ (both_present (s.contents set) parent target present).1

  free_left : (o : ℕ) → o ≢ set → is_taken (item_named (items_of ((dropping s set parent name (without_name s.files parent name)).contents o (names_cell target))) new_name) ≡ false
  free_left o d =
      ap (λ (c : Contents). is_taken (item_named (items_of (c (names_cell target))) new_name)) (set_off s.contents set o (with_content (s.contents set) (names_cell parent) (edited_if_present (DropItem name) (s.contents set (names_cell parent)))) d)
      ∙ nowhere o d

  move_step : AllShown (putting (dropping s set parent name (without_name s.files parent name)) set target (renamed w.item new_name) after) count
  move_step = put_step (dropping s set parent name (without_name s.files parent name)) count set target (renamed w.item new_name) after all_left (target_object (object_at s.files target) refl w.target_open) held_left no_link_moved
      (record { made = made_moved.made; at_home = made_moved.at_home; on_first = made_moved.on_first }) low free_left
      (subst (λ (x : Files). Renames (without_name s.files parent name) x target (with_item (names_at (without_name s.files parent name) target) (renamed w.item new_name))) w.after_is (renames (without_name s.files parent name) target (with_item (names_at (without_name s.files parent name) target) (renamed w.item new_name))))

  move_contents : put_at (dropping s set parent name (without_name s.files parent name)).contents set (names_cell target)
      (edited_if_present (PutItem (renamed w.item new_name)) ((dropping s set parent name (without_name s.files parent name)).contents set (names_cell target)))
      ≡ with_at s.contents set (contents_after (s.contents set) (op.Move parent name target new_name))
  move_contents =
      put_twice s.contents set (with_content (s.contents set) (names_cell parent) (edited_if_present (DropItem name) (s.contents set (names_cell parent)))) (names_cell target) (PutItem (renamed w.item new_name))
      ∙ ap (λ (x : Option Item). with_at s.contents set (after_edits (s.contents set) ((names_cell parent, DropItem name) ∷ moved_in x target new_name))) (sym item_there)

-- ---- every op

pub after_shown : (s : Volumes) (count set : ℕ) (o : StoreOp) (effect : Option Entry) → AllShown s count → FitsNow s count set o effect → AllShown (after_op s set o effect) count
after_shown s count set (op.Write g offset bytes) None all now = absurd now.stands
after_shown s count set (op.Write g offset bytes) (Some entry) all now =
    let a = now.stands.0 in
    let low : offset + length bytes ≤ file_limit = ltb-false file_limit (offset + length bytes) (fit_parts (s.contents set) (op.Write g offset bytes) now.fits_set).1 in
    arrives s count set (op.Write g offset bytes) (Some entry) (put_in s set (data_cell g) (edited_if_present (PutBytes offset bytes) (s.contents set (data_cell g))) a.after) now.fits_set
    (rewritten_step s count set g (PutBytes offset bytes) (λ l. written l offset bytes) a.after all now.stands.1 (write_is s.files g offset bytes a.answer a.after a.accepted) (λ l. refl) (λ l short. written_short l bytes offset low short))
    refl refl refl (accepted_files s.files (flat_op.Write g offset bytes) a.answer a.after a.accepted)
after_shown s count set (op.Truncate g size) None all now = absurd now.stands
after_shown s count set (op.Truncate g size) (Some entry) all now =
    let a = now.stands.0 in
    let low : size ≤ file_limit = ltb-false file_limit size (fit_parts (s.contents set) (op.Truncate g size) now.fits_set).1 in
    arrives s count set (op.Truncate g size) (Some entry) (put_in s set (data_cell g) (edited_if_present (Resize size) (s.contents set (data_cell g))) a.after) now.fits_set
    (rewritten_step s count set g (Resize size) (λ l. resized l size) a.after all now.stands.1 (truncate_is s.files g size a.answer a.after a.accepted) (λ l. refl) (λ l short. resized_short l size low))
    refl refl refl (accepted_files s.files (flat_op.Truncate g size) a.answer a.after a.accepted)
after_shown s count set (op.SetMode g mode) None all now = absurd now.stands
after_shown s count set (op.SetMode g mode) (Some entry) all now =
    let a = now.stands.0 in
    arrives s count set (op.SetMode g mode) (Some entry) (put_in s set (meta_cell g) (edited_if_present (PutMode mode) (s.contents set (meta_cell g))) a.after) now.fits_set
    (meta_step s count set g (PutMode mode) (λ m. mode) (λ l. l) (λ o. object_with_mode o mode) a.after all now.stands.1 (chmod_is s.files g mode a.answer a.after a.accepted) (λ m l span. refl) (λ o. mode_meta o mode))
    refl refl refl (accepted_files s.files (flat_op.Chmod g mode) a.answer a.after a.accepted)
after_shown s count set (op.SetAttr g attr) None all now = absurd now.stands
after_shown s count set (op.SetAttr g attr) (Some entry) all now =
    let a = now.stands.0 in
    arrives s count set (op.SetAttr g attr) (Some entry) (put_in s set (meta_cell g) (edited_if_present (PutAttr attr) (s.contents set (meta_cell g))) a.after) now.fits_set
    (meta_step s count set g (PutAttr attr) (λ m. m) (λ l. with_attr l attr) (λ o. object_with_attrs o (with_attr (object_attrs o) attr)) a.after all now.stands.1 (setattr_is s.files g attr a.answer a.after a.accepted) (λ m l span. refl) (λ o. attrs_meta o (λ l. with_attr l attr)))
    refl refl refl (accepted_files s.files (flat_op.SetAttr g attr) a.answer a.after a.accepted)
after_shown s count set (op.DelAttr g name) None all now = absurd now.stands
after_shown s count set (op.DelAttr g name) (Some entry) all now =
    let a = now.stands.0 in
    arrives s count set (op.DelAttr g name) (Some entry) (put_in s set (meta_cell g) (edited_if_present (DropAttr name) (s.contents set (meta_cell g))) a.after) now.fits_set
    (meta_step s count set g (DropAttr name) (λ m. m) (λ l. without_attr l name) (λ o. object_with_attrs o (without_attr (object_attrs o) name)) a.after all now.stands.1 (delattr_is s.files g name a.answer a.after a.accepted) (λ m l span. refl) (λ o. attrs_meta o (λ l. without_attr l name)))
    refl refl refl (accepted_files s.files (flat_op.DelAttr g name) a.answer a.after a.accepted)
after_shown s count set (op.AddName parent item mode span) None all now =
    let p = fit_parts (s.contents set) (op.AddName parent item mode span) now.fits_set in
    arrives s count set (op.AddName parent item mode span) None (putting s set parent item s.files) now.fits_set
    (put_link s count set parent item all now.stands.1 (first_present (s.contents set) (names_cell parent) [] p.0).0 now.stands.0 (or_parts (is_removed (s.contents set (names_cell parent))) (is_taken (item_in (s.contents set) parent item.name)) p.1).1)
    (ap (λ (k : Kind). with_at s.contents set (after_births (with_content (s.contents set) (names_cell parent) (edited_if_present (PutItem item) (s.contents set (names_cell parent)))) (born k item.gfid mode span))) (sym now.stands.0)) refl refl refl
after_shown s count set (op.AddName parent item mode span) (Some entry) all now =
    let p = fit_parts (s.contents set) (op.AddName parent item mode span) now.fits_set in
    let held = (first_present (s.contents set) (names_cell parent) [] p.0).0 in
    let w = added_new s.files parent item mode now.stands.0 now.stands.1.target (files_with s.files (added parent item mode item.kind)) refl in
    arrives s count set (op.AddName parent item mode span) (Some entry)
    (putting (making s set item.gfid item.kind mode span (with_object s.files item.gfid (new_object item.kind mode))) set parent item (files_with s.files (added parent item mode item.kind))) now.fits_set
    (add_step s count set parent item mode span (files_with s.files (added parent item mode item.kind)) all now.on_set held now.stands.1 w)
    (add_contents s count set parent item mode span (files_with s.files (added parent item mode item.kind)) all now.on_set held now.stands.1 w) refl refl refl
after_shown s count set (op.DropName parent name) None all now =
    arrives s count set (op.DropName parent name) None (dropping s set parent name s.files) now.fits_set (drop_link s count set parent name all now.stands) refl refl refl refl
after_shown s count set (op.DropName parent name) (Some entry) all now =
    let a = now.stands.0 in
    let w = dropped_is s.files parent name a.answer a.after a.accepted in
    let dir = open_directory s count parent w.open_at.names w.open_at.mode w.open_at.attrs (all parent) w.open_at.object_is in
    arrives s count set (op.DropName parent name) (Some entry) (dropping s set parent name a.after) now.fits_set
    (drop_step s count set parent name a.after all dir.directory now.stands.1 (subst (λ (x : Files). Renames s.files x parent (without_item (names_at s.files parent) name)) w.after_is (renames s.files parent (without_item (names_at s.files parent) name))))
    refl refl refl (accepted_files s.files (flat_op.Unlink parent name) a.answer a.after a.accepted)
after_shown s count set (op.DropDir parent name g) None all now = absurd now.stands
after_shown s count set (op.DropDir parent name g) (Some entry) all now =
    let a = now.stands.0 in
    let p = fit_parts (s.contents set) (op.DropDir parent name g) now.fits_set in
    let that = that_directory (item_in (s.contents set) parent name) g (not_not (is_that_directory (item_in (s.contents set) parent name) g) (or_parts (not (is_that_directory (item_in (s.contents set) parent name) g)) (has_real_name (items_of (s.contents set (names_cell g)))) p.1).0) in
    let w = removed_is s.files parent name a.answer a.after a.accepted in
    arrives s count set (op.DropDir parent name g) (Some entry) (removing (dropping s set parent name (without_name s.files parent name)) g a.after) now.fits_set
    (remove_step s count set parent name g a.after all p.0 that w) (remove_contents s count set parent name g a.after all p.0 that w) refl refl (accepted_files s.files (flat_op.Rmdir parent name) a.answer a.after a.accepted)
after_shown s count set (op.Move parent name target new_name) None all now = absurd now.stands
after_shown s count set (op.Move parent name target new_name) (Some entry) all now =
    let a = now.stands.0 in
    let p = fit_parts (s.contents set) (op.Move parent name target new_name) now.fits_set in
    let w = moved_is s.files parent name target new_name a.answer a.after a.accepted in
    arrives s count set (op.Move parent name target new_name) (Some entry) (putting (dropping s set parent name (without_name s.files parent name)) set target (renamed w.item new_name) a.after) now.fits_set
    (move_step s count set parent name target new_name a.after all now.on_set p.0 now.stands.1.0 now.stands.1.1 w)
    (move_contents s count set parent name target new_name a.after all now.on_set p.0 now.stands.1.0 now.stands.1.1 w) refl refl (accepted_files s.files (flat_op.Rename parent name target new_name) a.answer a.after a.accepted)
after_shown s count set (op.MakeCopy g span) None all now =
    arrives s count set (op.MakeCopy g span) None (copying s set g span) now.fits_set (copy_step s count set g span all) refl refl refl refl
after_shown s count set (op.MakeCopy g span) (Some entry) all now = absurd now.stands.1

pub one_op : OneOp
one_op s count set o effect flat now = from_local (after_op s set o effect) count (after_shown s count set o effect (to_local s count flat) now)
