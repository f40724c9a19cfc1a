-- The sets show the flat file system after a name of a directory was put on a set or dropped there.
use Rattle.std.proofs.Common.{◌≡◌, ◌≢◌, ◌⊎◌, inl, inr, ◌∙◌, ℕ, ◌<◌, Bool, true, false, not, List, [], ◌∷◌, Option, Some, None, if◌then◌else◌, refl, ap, sym, subst, arith}
use Rattle.contents.proofs.Orders.{item_in_rises, item_out_rises}
use Rattle.dht_fops.specs.Shown.{SetContents, Homes, file_of, directory_of}
use Rattle.dht_fops.specs.Standing.{Volumes}
use Rattle.fop_types.specs.Cells.{data_cell, meta_cell, names_cell}
use Rattle.fop_types.specs.Files.{Files, object_at, names_at, names_of, with_names, object_with_names}
use Rattle.fop_types.specs.Names.{item_named, with_item, without_item, is_link}
use Rattle.fop_types.specs.StoreOps.{items_of, is_removed, is_taken, holds_meta, holds_names, edited_if_present}
use Rattle.fop_types.specs.StoreOps.Edit.{PutItem, DropItem}
use Rattle.fop_types.specs.declared.cells.Gfid.{Gfid}
use Rattle.fop_types.specs.declared.cells.Kind.{Kind}
use Rattle.fop_types.specs.declared.cells.Kind.TheVariants as kind
use Rattle.fop_types.specs.declared.contents.Attr.{Attr}
use Rattle.fop_types.specs.declared.contents.Content.{Content}
use Rattle.fop_types.specs.declared.contents.Content.TheVariants.{Bytes, Meta, Names}
use Rattle.fop_types.specs.declared.contents.Item.{Item}
use Rattle.fop_types.specs.declared.contents.Span.{Span}
use Rattle.fop_types.specs.declared.flat.FlatObject.{FlatObject}
use Rattle.fop_types.specs.declared.flat.FlatObject.TheVariants.{File, Directory}
use Rattle.mount_files.proofs.Accepting.{names_here, names_off}
use Rattle.mount_files.proofs.Cells.{put_at, put_in, put_off, put_here, put_else, data_names, meta_names, number_is, all_with}
use Rattle.mount_files.proofs.Families.{IsItemAt, AreNamesSound, Differs, taken_at, sound_new, put_shown, drop_shown, link_shown, untaken_by}
use Rattle.mount_files.proofs.Local.{Column, column, items_in, names_in, shown_as, ShownAt, ShownOf, AllShown, shown_with}
use Rattle.mount_files.proofs.Rises.{IsRising, named_with, named_without, rise_once, same}

-- ---- directories

pub record IsMeta (content : Option Content) : Type 0 where
  pub mode : ℕ
  pub attrs : List Attr
  pub span : Option Span
  pub content_is : content ≡ Some (Meta mode attrs span)

pub meta_is : (content : Option Content) → holds_meta content ≡ true → IsMeta content
meta_is None e = absurd cc
meta_is (Some (Bytes bytes)) e = absurd cc
meta_is (Some (Meta mode attrs span)) e = record { mode = mode; attrs = attrs; span = span; content_is = refl }
meta_is (Some (Names removed items)) e = absurd cc

file_no_directory : (body meta : Option Content) (names : List Item) (mode : ℕ) (attrs : List Attr) (removed : Bool) → file_of body meta ≡ Some (Directory names mode attrs removed) → ⊥
file_no_directory None meta names mode attrs removed e = absurd cc
file_no_directory (Some (Bytes bytes)) None names mode attrs removed e = absurd cc
file_no_directory (Some (Bytes bytes)) (Some (Bytes others)) names mode attrs removed e = absurd cc
file_no_directory (Some (Bytes bytes)) (Some (Meta m a span)) names mode attrs removed e = absurd cc
file_no_directory (Some (Bytes bytes)) (Some (Names r items)) names mode attrs removed e = absurd cc
file_no_directory (Some (Meta m a span)) meta names mode attrs removed e = absurd cc
file_no_directory (Some (Names r items)) meta names mode attrs removed e = absurd cc

directory_no_file : (first : Option Content) (r : Bool) (items : List Item) (bytes : List ℕ) (mode : ℕ) (attrs : List Attr) → directory_of first r items ≡ Some (File bytes mode attrs) → ⊥
directory_no_file None r items bytes mode attrs e = absurd cc
directory_no_file (Some (Bytes others)) r items bytes mode attrs e = absurd cc
directory_no_file (Some (Meta m a span)) r items bytes mode attrs e = absurd cc
directory_no_file (Some (Names s others)) r items bytes mode attrs e = absurd cc

pub kind_directory : (count : ℕ) (k : Option Kind) (body meta first : Option Content) (entry : Column) (names : List Item) (mode : ℕ) (attrs : List Attr) (removed : Bool)
    → shown_as count k body meta first entry ≡ Some (Directory names mode attrs removed) → k ≡ Some kind.Dir
kind_directory count None body meta first entry names mode attrs removed e = absurd cc
kind_directory count (Some kind.File) body meta first entry names mode attrs removed e = absurd (file_no_directory body meta names mode attrs removed e)
kind_directory count (Some kind.Dir) body meta first entry names mode attrs removed e = refl
kind_directory count (Some kind.Link) body meta first entry names mode attrs removed e = absurd cc

pub kind_file : (count : ℕ) (k : Option Kind) (body meta first : Option Content) (entry : Column) (bytes : List ℕ) (mode : ℕ) (attrs : List Attr)
    → shown_as count k body meta first entry ≡ Some (File bytes mode attrs) → k ≡ Some kind.File
kind_file count None body meta first entry bytes mode attrs e = absurd cc
kind_file count (Some kind.File) body meta first entry bytes mode attrs e = refl
kind_file count (Some kind.Dir) body meta first entry bytes mode attrs e = absurd (directory_no_file first (is_removed (entry 0)) (names_in count entry) bytes mode attrs e)
kind_file count (Some kind.Link) body meta first entry bytes mode attrs e = absurd cc

-- a directory that is shown
pub record IsDirectory (s : Volumes) (count : ℕ) (d : Gfid) : Type 0 where
  pub kind_is : s.kinds d ≡ Some kind.Dir
  pub meta : IsMeta (s.contents 0 (meta_cell d))
  pub object_is : object_at s.files d ≡ Some (Directory (names_in count (column s.contents (names_cell d))) meta.mode meta.attrs (is_removed (s.contents 0 (names_cell d))))

pub directory_made : (s : Volumes) (count : ℕ) (d : Gfid) → ShownOf s count d → s.kinds d ≡ Some kind.Dir → IsDirectory s count d
directory_made s count d a e =
    let m = meta_is (s.contents 0 (meta_cell d)) (a.directory e) in
    record {
      kind_is = e;
      meta = m;
      object_is =
          a.object_is
          ∙ ap (λ (k : Option Kind). shown_as count k (s.contents (s.homes d) (data_cell d)) (s.contents (s.homes d) (meta_cell d)) (s.contents 0 (meta_cell d)) (column s.contents (names_cell d))) e
          ∙ ap (λ (c : Option Content). directory_of c (is_removed (s.contents 0 (names_cell d))) (names_in count (column s.contents (names_cell d)))) m.content_is;
    }

pub directory_named : (s : Volumes) (count : ℕ) (d : Gfid) → IsDirectory s count d → names_at s.files d ≡ names_in count (column s.contents (names_cell d))
directory_named s count d a = ap names_of a.object_is

-- one that is open is shown, and not removed
pub record IsOpenDirectory (s : Volumes) (count : ℕ) (d : Gfid) : Type 0 where
  pub directory : IsDirectory s count d
  pub kept : is_removed (s.contents 0 (names_cell d)) ≡ false

same_mark : (a b : List Item) (m n : ℕ) (x y : List Attr) (r t : Bool) → ◌≡◌ {A = Option FlatObject} (Some (Directory a m x r)) (Some (Directory b n y t)) → r ≡ t
same_mark a b m n x y r t e = cc

pub open_directory : (s : Volumes) (count : ℕ) (d : Gfid) (names : List Item) (mode : ℕ) (attrs : List Attr) → ShownOf s count d → object_at s.files d ≡ Some (Directory names mode attrs false) → IsOpenDirectory s count d
open_directory s count d names mode attrs a e =
    let k = kind_directory count (s.kinds d) (s.contents (s.homes d) (data_cell d)) (s.contents (s.homes d) (meta_cell d)) (s.contents 0 (meta_cell d)) (column s.contents (names_cell d)) names mode attrs false (sym a.object_is ∙ e) in
    let dir = directory_made s count d a k in
    record {
      directory = dir;
      kept = same_mark (names_in count (column s.contents (names_cell d))) names dir.meta.mode mode dir.meta.attrs attrs (is_removed (s.contents 0 (names_cell d))) false (sym dir.object_is ∙ e);
    }

-- ---- a directory's list on one set is another

pub record Relisted (entry entry2 : Column) (set : ℕ) (items : List Item) : Type 0 where
  pub here : items_of (entry2 set) ≡ items
  pub removed : (s : ℕ) → is_removed (entry2 s) ≡ is_removed (entry s)
  pub others : (s : ℕ) → s ≢ set → entry2 s ≡ entry s

pub relisted : (contents : SetContents) (set : ℕ) (d : Gfid) (x : Option Content) (items : List Item) → items_of x ≡ items → is_removed x ≡ is_removed (contents set (names_cell d))
    → Relisted (column contents (names_cell d)) (column (put_at contents set (names_cell d) x) (names_cell d)) set items
relisted contents set d x items e r = record {
  here = ap items_of (put_here contents set (names_cell d) x) ∙ e;
  removed = λ s. by_case s (number_is s set);
  others = λ s off. put_else contents set (names_cell d) x s off;
}
  where
    by_case : (s : ℕ) → (s ≡ set) ⊎ (s ≢ set) → is_removed (put_at contents set (names_cell d) x s (names_cell d)) ≡ is_removed (contents s (names_cell d))
    by_case s (inl f) = subst (λ (k : ℕ). is_removed (put_at contents set (names_cell d) x k (names_cell d)) ≡ is_removed (contents k (names_cell d))) (sym f) (ap is_removed (put_here contents set (names_cell d) x) ∙ r)
    by_case s (inr off) = ap is_removed (put_else contents set (names_cell d) x s off)

pub put_items : (item : Item) (c : Option Content) → holds_names c ≡ true → items_of (edited_if_present (PutItem item) c) ≡ with_item (items_of c) item
put_items item None e = absurd cc
put_items item (Some (Bytes bytes)) e = absurd cc
put_items item (Some (Meta mode attrs span)) e = absurd cc
put_items item (Some (Names removed items)) e = refl

pub put_removed : (item : Item) (c : Option Content) → is_removed (edited_if_present (PutItem item) c) ≡ is_removed c
put_removed item None = refl
put_removed item (Some (Bytes bytes)) = refl
put_removed item (Some (Meta mode attrs span)) = refl
put_removed item (Some (Names removed items)) = refl

pub drop_items : (n : List ℕ) (c : Option Content) → items_of (edited_if_present (DropItem n) c) ≡ without_item (items_of c) n
drop_items n None = refl
drop_items n (Some (Bytes bytes)) = refl
drop_items n (Some (Meta mode attrs span)) = refl
drop_items n (Some (Names removed items)) = refl

pub drop_removed : (n : List ℕ) (c : Option Content) → is_removed (edited_if_present (DropItem n) c) ≡ is_removed c
drop_removed n None = refl
drop_removed n (Some (Bytes bytes)) = refl
drop_removed n (Some (Meta mode attrs span)) = refl
drop_removed n (Some (Names removed items)) = refl

rising_by : (entry entry2 : Column) (set : ℕ) (items : List Item) → Relisted entry entry2 set items → ((s : ℕ) → IsRising (items_of (entry s))) → IsRising items → (s : ℕ) → IsRising (items_of (entry2 s))
rising_by entry entry2 set items r all here s = by_case (number_is s set)
  where
    by_case : (s ≡ set) ⊎ (s ≢ set) → IsRising (items_of (entry2 s))
    by_case (inl e) = subst (λ (k : ℕ). IsRising (items_of (entry2 k))) (sym e) (subst IsRising (sym r.here) here)
    by_case (inr d) = subst (λ (c : Option Content). IsRising (items_of c)) (sym (r.others s d)) (all s)

pub put_differs : (entry entry2 : Column) (set : ℕ) (item : Item) → Relisted entry entry2 set (with_item (items_of (entry set)) item) → ((s : ℕ) → IsRising (items_of (entry s))) → Differs (items_in entry) (items_in entry2) set item.name (Some item)
put_differs entry entry2 set item r all = record {
  rising = rising_by entry entry2 set (with_item (items_of (entry set)) item) r all (item_in_rises (items_of (entry set)) item (all set));
  here = λ m. ap (λ (l : List Item). item_named l m) r.here ∙ named_with (items_of (entry set)) item m;
  others = λ s d. ap items_of (r.others s d);
}

pub drop_differs : (entry entry2 : Column) (set : ℕ) (n : List ℕ) → Relisted entry entry2 set (without_item (items_of (entry set)) n) → ((s : ℕ) → IsRising (items_of (entry s))) → Differs (items_in entry) (items_in entry2) set n None
drop_differs entry entry2 set n r all = record {
  rising = rising_by entry entry2 set (without_item (items_of (entry set)) n) r all (item_out_rises (items_of (entry set)) n (all set));
  here = λ m. ap (λ (l : List Item). item_named l m) r.here ∙ named_without (items_of (entry set)) n m (rise_once (items_of (entry set)) (all set));
  others = λ s d. ap items_of (r.others s d);
}

-- ---- the step

pub shown_again : (count : ℕ) (k : Option Kind) (body meta first : Option Content) (entry entry2 : Column) → is_removed (entry2 0) ≡ is_removed (entry 0) → names_in count entry2 ≡ names_in count entry → shown_as count k body meta first entry2 ≡ shown_as count k body meta first entry
shown_again count None body meta first entry entry2 r n = refl
shown_again count (Some kind.File) body meta first entry entry2 r n = refl
shown_again count (Some kind.Dir) body meta first entry entry2 r n = ap (λ (b : Bool). directory_of first b (names_in count entry2)) r ∙ ap (λ (l : List Item). directory_of first (is_removed (entry 0)) l) n
shown_again count (Some kind.Link) body meta first entry entry2 r n = refl

module _ (s : Volumes) (count set : ℕ) (d : Gfid) (x : Option Content) (files : Files) (all : AllShown s count) (items : List Item) (items_is : items_of x ≡ items) (mark_is : is_removed x ≡ is_removed (s.contents set (names_cell d))) where
  pub again : Relisted (column s.contents (names_cell d)) (column (put_at s.contents set (names_cell d) x) (names_cell d)) set items
  again = relisted s.contents set d x items items_is mark_is

  pub relist : AreNamesSound s.kinds s.homes count (is_removed (s.contents 0 (names_cell d))) (items_in (column (put_at s.contents set (names_cell d) x) (names_cell d)))
      → (s.kinds d ≡ None → (o : ℕ) → items_of (put_at s.contents set (names_cell d) x o (names_cell d)) ≡ [])
      → object_at files d ≡ shown_as count (s.kinds d) (s.contents (s.homes d) (data_cell d)) (s.contents (s.homes d) (meta_cell d)) (s.contents 0 (meta_cell d)) (column (put_at s.contents set (names_cell d) x) (names_cell d))
      → ((q : Gfid) → q ≢ d → object_at files q ≡ object_at s.files q) → AllShown (put_in s set (names_cell d) x files) count
  relist sound orphan object others = all_with s count set (names_cell d) x files all others here
    where
      a : ShownOf s count d
      a = all d

      new : Column
      new = column (put_at s.contents set (names_cell d) x) (names_cell d)

      changed : ShownAt s.kinds s.homes count (s.kinds d) (s.homes d) (column s.contents (data_cell d)) (column s.contents (meta_cell d)) (column (put_at s.contents set (names_cell d) x) (names_cell d)) (object_at files d)
      changed = record {
        object_is = object;
        directory = a.directory;
        datas = a.datas;
        metas = a.metas;
        few = a.few;
        names = subst (λ (b : Bool). AreNamesSound s.kinds s.homes count b (items_in (column (put_at s.contents set (names_cell d) x) (names_cell d)))) (sym (again.removed 0)) sound;
        marked = λ o high. again.removed o ∙ a.marked o high;
        orphan = orphan;
      }

      here : ShownOf (put_in s set (names_cell d) x files) count d
      here = shown_with s.kinds s.homes count (s.kinds d) (s.homes d) (column s.contents (data_cell d)) (column s.contents (meta_cell d)) (column (put_at s.contents set (names_cell d) x) (names_cell d)) _ _ _ (object_at files d) (object_at files d) changed
          (put_off s.contents set (names_cell d) (data_cell d) x (data_names d d)) (put_off s.contents set (names_cell d) (meta_cell d) x (meta_names d d)) refl refl

-- no names where the object was not made
no_orphan : {A : Type 0} → (k : Option Kind) → k ≡ Some kind.Dir → k ≡ None → A
no_orphan k e f = absurd cc

-- the files have other names in one directory
pub record Renames (files files2 : Files) (d : Gfid) (names : List Item) : Type 0 where
  pub here : (o : FlatObject) → object_at files d ≡ Some o → object_at files2 d ≡ Some (object_with_names o names)
  pub others : (q : Gfid) → q ≢ d → object_at files2 q ≡ object_at files q

pub renames : (files : Files) (d : Gfid) (names : List Item) → Renames files (with_names files d names) d names
renames files d names = record { here = λ o e. names_here files d o names e; others = λ q e. names_off files d q names e }

-- a directory's object after its names are others
renamed_is : (s : Volumes) (count : ℕ) (d : Gfid) (files : Files) (entry : Column) (names : List Item) (dir : IsDirectory s count d) → Renames s.files files d names → is_removed (entry 0) ≡ is_removed (s.contents 0 (names_cell d)) → names_in count entry ≡ names
    → object_at files d ≡ shown_as count (s.kinds d) (s.contents (s.homes d) (data_cell d)) (s.contents (s.homes d) (meta_cell d)) (s.contents 0 (meta_cell d)) entry
renamed_is s count d files entry names dir r mark n =
    r.here (Directory (names_in count (column s.contents (names_cell d))) dir.meta.mode dir.meta.attrs (is_removed (s.contents 0 (names_cell d)))) dir.object_is
    ∙ sym (
    ap (λ (k : Option Kind). shown_as count k (s.contents (s.homes d) (data_cell d)) (s.contents (s.homes d) (meta_cell d)) (s.contents 0 (meta_cell d)) entry) dir.kind_is
    ∙ ap (λ (c : Option Content). directory_of c (is_removed (entry 0)) (names_in count entry)) dir.meta.content_is
    ∙ ap (λ (b : Bool). Some (Directory (names_in count entry) dir.meta.mode dir.meta.attrs b)) mark
    ∙ ap (λ (l : List Item). Some (Directory l dir.meta.mode dir.meta.attrs (is_removed (s.contents 0 (names_cell d))))) n)

-- no other set has a name
abbrev pub IsFreeElse : Volumes → ℕ → Gfid → List ℕ → Type 0
IsFreeElse s set d n = (o : ℕ) → o ≢ set → is_taken (item_named (items_of (s.contents o (names_cell d))) n) ≡ false

abbrev pub putting : Volumes → ℕ → Gfid → Item → Files → Volumes
putting s set d item files = put_in s set (names_cell d) (edited_if_present (PutItem item) (s.contents set (names_cell d))) files

abbrev pub dropping : Volumes → ℕ → Gfid → List ℕ → Files → Volumes
dropping s set d n files = put_in s set (names_cell d) (edited_if_present (DropItem n) (s.contents set (names_cell d))) files

-- a file's or directory's name is put on a set
pub put_step : (s : Volumes) (count set : ℕ) (d : Gfid) (item : Item) (files : Files) → AllShown s count → IsOpenDirectory s count d → holds_names (s.contents set (names_cell d)) ≡ true → is_link item.kind ≡ false → IsItemAt s.kinds s.homes set item
    → set < count → IsFreeElse s set d item.name → Renames s.files files d (with_item (names_at s.files d) item) → AllShown (putting s set d item files) count
put_step s count set d item files all open_dir holds l made low free r =
    relist s count set d x files all (with_item (items_of (s.contents set (names_cell d))) item) items_is mark_is
    (sound_new (items_in old) (items_in new) set item.name (Some item) differs s.kinds s.homes count (is_removed (old 0)) (all d).names (λ t. open_dir.kept) (λ t. free) (λ i e k. subst (λ (j : Item). IsItemAt s.kinds s.homes set j) (same_some item i e) made) (λ t. low))
    (no_orphan (s.kinds d) open_dir.directory.kind_is)
    (renamed_is s count d files new (with_item (names_at s.files d) item) open_dir.directory r ((again s count set d x files all (with_item (items_of (s.contents set (names_cell d))) item) items_is mark_is).removed 0)
    (put_shown (items_in old) (items_in new) set item.name (Some item) differs count (all d).names.rising item refl l refl low free
    ∙ ap (λ (names : List Item). with_item names item) (sym (directory_named s count d open_dir.directory))))
    r.others
  where
    x : Option Content
    x = edited_if_present (PutItem item) (s.contents set (names_cell d))

    old : Column
    old = column s.contents (names_cell d)

    new : Column
    new = column (put_at s.contents set (names_cell d) (edited_if_present (PutItem item) (s.contents set (names_cell d)))) (names_cell d)

    items_is : items_of (edited_if_present (PutItem item) (s.contents set (names_cell d))) ≡ with_item (items_of (s.contents set (names_cell d))) item
    items_is = put_items item (s.contents set (names_cell d)) holds

    mark_is : is_removed (edited_if_present (PutItem item) (s.contents set (names_cell d))) ≡ is_removed (s.contents set (names_cell d))
    mark_is = put_removed item (s.contents set (names_cell d))

    differs : Differs (items_in (column s.contents (names_cell d))) (items_in (column (put_at s.contents set (names_cell d) (edited_if_present (PutItem item) (s.contents set (names_cell d)))) (names_cell d))) set item.name (Some item)
    differs = put_differs (column s.contents (names_cell d)) _ set item (relisted s.contents set d _ (with_item (items_of (s.contents set (names_cell d))) item) items_is mark_is) (all d).names.rising

    same_some : (a b : Item) → ◌≡◌ {A = Option Item} (Some a) (Some b) → a ≡ b
    same_some a b e = cc

-- a file's or directory's name is dropped on the set that has it
pub drop_step : (s : Volumes) (count set : ℕ) (d : Gfid) (n : List ℕ) (files : Files) → AllShown s count → IsDirectory s count d → is_taken (item_named (items_of (s.contents set (names_cell d))) n) ≡ true
    → Renames s.files files d (without_item (names_at s.files d) n) → AllShown (dropping s set d n files) count
drop_step s count set d n files all dir there r =
    relist s count set d x files all (without_item (items_of (s.contents set (names_cell d))) n) items_is mark_is
    (sound_new (items_in old) (items_in new) set n None differs s.kinds s.homes count (is_removed (old 0)) (all d).names (λ t. absurd cc) (λ t. absurd cc) (λ i e k. absurd cc) (λ t. absurd cc))
    (no_orphan (s.kinds d) dir.kind_is)
    (renamed_is s count d files new (without_item (names_at s.files d) n) dir r ((again s count set d x files all (without_item (items_of (s.contents set (names_cell d))) n) items_is mark_is).removed 0)
    (drop_shown (items_in old) (items_in new) set n None differs count (all d).names.rising refl free
    ∙ ap (λ (names : List Item). without_item names n) (sym (directory_named s count d dir))))
    r.others
  where
    x : Option Content
    x = edited_if_present (DropItem n) (s.contents set (names_cell d))

    old : Column
    old = column s.contents (names_cell d)

    new : Column
    new = column (put_at s.contents set (names_cell d) (edited_if_present (DropItem n) (s.contents set (names_cell d)))) (names_cell d)

    items_is : items_of (edited_if_present (DropItem n) (s.contents set (names_cell d))) ≡ without_item (items_of (s.contents set (names_cell d))) n
    items_is = drop_items n (s.contents set (names_cell d))

    mark_is : is_removed (edited_if_present (DropItem n) (s.contents set (names_cell d))) ≡ is_removed (s.contents set (names_cell d))
    mark_is = drop_removed n (s.contents set (names_cell d))

    differs : Differs (items_in (column s.contents (names_cell d))) (items_in (column (put_at s.contents set (names_cell d) (edited_if_present (DropItem n) (s.contents set (names_cell d)))) (names_cell d))) set n None
    differs = drop_differs (column s.contents (names_cell d)) _ set n (relisted s.contents set d _ (without_item (items_of (s.contents set (names_cell d))) n) items_is mark_is) (all d).names.rising

    free : (o : ℕ) → o ≢ set → taken_at (items_in (column s.contents (names_cell d))) n o ≡ false
    free o off = untaken_by (taken_at (items_in (column s.contents (names_cell d))) n o) (λ e. off ((all d).names.alone n o set e there))

-- a link is put on a set where no file or directory has its name
pub put_link : (s : Volumes) (count set : ℕ) (d : Gfid) (item : Item) → AllShown s count → s.kinds d ≡ Some kind.Dir → holds_names (s.contents set (names_cell d)) ≡ true → item.kind ≡ kind.Link
    → is_taken (item_named (items_of (s.contents set (names_cell d))) item.name) ≡ false → AllShown (putting s set d item s.files) count
put_link s count set d item all made holds link free =
    relist s count set d x s.files all (with_item (items_of (s.contents set (names_cell d))) item) items_is mark_is
    (sound_new (items_in old) (items_in new) set item.name (Some item) differs s.kinds s.homes count (is_removed (old 0)) (all d).names (λ t. no_name t) (λ t. no_name t) (λ i e k. no_name (taken_by i e k)) (λ t. no_name t))
    (no_orphan (s.kinds d) made)
    ((all d).object_is
    ∙ sym (shown_again count (s.kinds d) (s.contents (s.homes d) (data_cell d)) (s.contents (s.homes d) (meta_cell d)) (s.contents 0 (meta_cell d)) old new ((again s count set d x s.files all (with_item (items_of (s.contents set (names_cell d))) item) items_is mark_is).removed 0)
    (link_shown (items_in old) (items_in new) set item.name (Some item) differs count (all d).names.rising untaken free)))
    (λ q e. refl)
  where
    x : Option Content
    x = edited_if_present (PutItem item) (s.contents set (names_cell d))

    old : Column
    old = column s.contents (names_cell d)

    new : Column
    new = column (put_at s.contents set (names_cell d) (edited_if_present (PutItem item) (s.contents set (names_cell d)))) (names_cell d)

    untaken : is_taken (Some item) ≡ false
    untaken = ap (λ (k : Kind). not (is_link k)) link

    no_name : {A : Type 0} → is_taken (Some item) ≡ true → A
    no_name t = absurd (let no : true ≡ false = sym t ∙ untaken in absurd cc)

    taken_by : (i : Item) → ◌≡◌ {A = Option Item} (Some item) (Some i) → is_link i.kind ≡ false → is_taken (Some item) ≡ true
    taken_by i e k = ap is_taken e ∙ ap not k

    items_is : items_of (edited_if_present (PutItem item) (s.contents set (names_cell d))) ≡ with_item (items_of (s.contents set (names_cell d))) item
    items_is = put_items item (s.contents set (names_cell d)) holds

    mark_is : is_removed (edited_if_present (PutItem item) (s.contents set (names_cell d))) ≡ is_removed (s.contents set (names_cell d))
    mark_is = put_removed item (s.contents set (names_cell d))

    differs : Differs (items_in (column s.contents (names_cell d))) (items_in (column (put_at s.contents set (names_cell d) (edited_if_present (PutItem item) (s.contents set (names_cell d)))) (names_cell d))) set item.name (Some item)
    differs = put_differs (column s.contents (names_cell d)) _ set item (relisted s.contents set d _ (with_item (items_of (s.contents set (names_cell d))) item) items_is mark_is) (all d).names.rising

-- a link is dropped
pub drop_link : (s : Volumes) (count set : ℕ) (d : Gfid) (n : List ℕ) → AllShown s count → is_taken (item_named (items_of (s.contents set (names_cell d))) n) ≡ false → AllShown (dropping s set d n s.files) count
drop_link s count set d n all free =
    relist s count set d x s.files all (without_item (items_of (s.contents set (names_cell d))) n) items_is mark_is
    (sound_new (items_in old) (items_in new) set n None differs s.kinds s.homes count (is_removed (old 0)) (all d).names (λ t. absurd cc) (λ t. absurd cc) (λ i e k. absurd cc) (λ t. absurd cc))
    orphan
    ((all d).object_is
    ∙ sym (shown_again count (s.kinds d) (s.contents (s.homes d) (data_cell d)) (s.contents (s.homes d) (meta_cell d)) (s.contents 0 (meta_cell d)) old new (list_again.removed 0)
    (link_shown (items_in old) (items_in new) set n None differs count (all d).names.rising refl free)))
    (λ q e. refl)
  where
    x : Option Content
    x = edited_if_present (DropItem n) (s.contents set (names_cell d))

    old : Column
    old = column s.contents (names_cell d)

    new : Column
    new = column (put_at s.contents set (names_cell d) (edited_if_present (DropItem n) (s.contents set (names_cell d)))) (names_cell d)

    items_is : items_of (edited_if_present (DropItem n) (s.contents set (names_cell d))) ≡ without_item (items_of (s.contents set (names_cell d))) n
    items_is = drop_items n (s.contents set (names_cell d))

    mark_is : is_removed (edited_if_present (DropItem n) (s.contents set (names_cell d))) ≡ is_removed (s.contents set (names_cell d))
    mark_is = drop_removed n (s.contents set (names_cell d))

    list_again : Relisted (column s.contents (names_cell d)) (column (put_at s.contents set (names_cell d) (edited_if_present (DropItem n) (s.contents set (names_cell d)))) (names_cell d)) set (without_item (items_of (s.contents set (names_cell d))) n)
    list_again = relisted s.contents set d _ (without_item (items_of (s.contents set (names_cell d))) n) items_is mark_is

    differs : Differs (items_in (column s.contents (names_cell d))) (items_in (column (put_at s.contents set (names_cell d) (edited_if_present (DropItem n) (s.contents set (names_cell d)))) (names_cell d))) set n None
    differs = drop_differs (column s.contents (names_cell d)) _ set n list_again (all d).names.rising

    orphan : s.kinds d ≡ None → (o : ℕ) → items_of (put_at s.contents set (names_cell d) (edited_if_present (DropItem n) (s.contents set (names_cell d))) o (names_cell d)) ≡ []
    orphan k o = by_case (number_is o set)
      where
        by_case : (o ≡ set) ⊎ (o ≢ set) → items_of (put_at s.contents set (names_cell d) (edited_if_present (DropItem n) (s.contents set (names_cell d))) o (names_cell d)) ≡ []
        by_case (inl e) =
            subst (λ (y : ℕ). items_of (put_at s.contents set (names_cell d) (edited_if_present (DropItem n) (s.contents set (names_cell d))) y (names_cell d)) ≡ []) (sym e)
            (list_again.here ∙ ap (λ (l : List Item). without_item l n) ((all d).orphan k set))
        by_case (inr off) = ap items_of (list_again.others o off) ∙ (all d).orphan k o
