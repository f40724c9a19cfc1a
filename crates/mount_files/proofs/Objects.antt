-- The sets show the flat file system after a file's bytes, or the mode or attributes of an object, were changed where it is.
use Rattle.std.proofs.Common.{◌≡◌, ◌≢◌, ◌⊎◌, inl, inr, ◌∙◌, ◌+◌, ◌-◌, ◌++◌, ℕ, ◌<◌, ◌≤◌, Bool, true, false, List, [], ◌∷◌, Option, Some, None, length, take, drop, replicate, refl, ap, sym, subst, arith, length-append}
use Rattle.std.proofs.lemmas.List.{length-take, length-drop}
use Rattle.dht_fops.specs.Shown.{file_of, directory_of}
use Rattle.dht_fops.specs.Standing.{Volumes}
use Rattle.fop_types.specs.Cells.{data_cell, meta_cell, names_cell}
use Rattle.fop_types.specs.FileBytes.{file_limit, padded, written, resized}
use Rattle.fop_types.specs.Files.{Files, object_at}
use Rattle.fop_types.specs.Limits.{max_data}
use Rattle.fop_types.specs.StoreOps.{Edit, edited, edited_if_present, is_removed, holds_bytes, holds_meta}
use Rattle.fop_types.specs.declared.cells.Gfid.{Gfid}
use Rattle.fop_types.specs.declared.cells.Kind.{Kind}
use Rattle.fop_types.specs.declared.cells.Kind.TheVariants as kind
use Rattle.fop_types.specs.declared.contents.Attr.{Attr}
use Rattle.fop_types.specs.declared.contents.Content.{Content}
use Rattle.fop_types.specs.declared.contents.Content.TheVariants.{Bytes, Meta, Names}
use Rattle.fop_types.specs.declared.contents.Item.{Item}
use Rattle.fop_types.specs.declared.contents.Span.{Span}
use Rattle.fop_types.specs.declared.flat.FlatObject.{FlatObject}
use Rattle.fop_types.specs.declared.flat.FlatObject.TheVariants.{File, Directory}
use Rattle.mount_files.proofs.Cells.{put_at, put_in, put_off, put_here, put_else, data_meta, data_names, meta_names, number_is, all_with}
use Rattle.mount_files.proofs.Local.{Column, column, names_in, shown_as, ShownAt, ShownOf, AllShown, shown_with}
use Rattle.mount_files.proofs.Naming.{IsMeta, meta_is, kind_file, IsDirectory, directory_made}

-- ---- lengths

pub written_short : (bytes new : List ℕ) (offset : ℕ) → offset + length new ≤ file_limit → length bytes ≤ file_limit → length (written bytes offset new) ≤ file_limit
written_short bytes [] offset within short = short
written_short bytes (b ∷ bs) offset within short =
    let front : List ℕ = take offset (padded bytes offset) in
    let rest : List ℕ = drop (offset + length (b ∷ bs)) bytes in
    omega (arith, length-append (front ++ (b ∷ bs)) rest, length-append front (b ∷ bs), within, short, take_most offset (padded bytes offset), length-drop (offset + length (b ∷ bs)) bytes)
  where
    take_most : (n : ℕ) (xs : List ℕ) → length (take n xs) ≤ n
    take_most n xs = omega (arith, length-take n xs)

pub resized_short : (bytes : List ℕ) (size : ℕ) → size ≤ file_limit → length (resized bytes size) ≤ file_limit
resized_short bytes size within = omega (arith, within, length-take size (padded bytes size))

-- ---- files that are shown

pub record HasBytes (content : Option Content) : Type 0 where
  pub bytes : List ℕ
  pub content_is : content ≡ Some (Bytes bytes)

bytes_are : (content : Option Content) → holds_bytes content ≡ true → HasBytes content
bytes_are None e = absurd cc
bytes_are (Some (Bytes bytes)) e = record { bytes = bytes; content_is = refl }
bytes_are (Some (Meta mode attrs span)) e = absurd cc
bytes_are (Some (Names removed items)) e = absurd cc

-- a file that is shown, on the set that is its home
pub record IsFile (s : Volumes) (set : ℕ) (g : Gfid) : Type 0 where
  pub kind_is : s.kinds g ≡ Some kind.File
  pub home_is : s.homes g ≡ set
  pub body : HasBytes (s.contents set (data_cell g))
  pub meta : IsMeta (s.contents set (meta_cell g))
  pub object_is : object_at s.files g ≡ Some (File body.bytes meta.mode meta.attrs)

pub file_made : (s : Volumes) (count set : ℕ) (g : Gfid) → ShownOf s count g → s.kinds g ≡ Some kind.File → s.homes g ≡ set → IsFile s set g
file_made s count set g a e h =
    let d = bytes_are (s.contents set (data_cell g)) (subst (λ (x : ℕ). holds_bytes (s.contents x (data_cell g)) ≡ true) h (a.datas e)) in
    let m = meta_is (s.contents set (meta_cell g)) (subst (λ (x : ℕ). holds_meta (s.contents x (meta_cell g)) ≡ true) h (a.metas e)) in
    record {
      kind_is = e;
      home_is = h;
      body = d;
      meta = m;
      object_is =
          a.object_is
          ∙ ap (λ (k : Option Kind). shown_as count k (s.contents (s.homes g) (data_cell g)) (s.contents (s.homes g) (meta_cell g)) (s.contents 0 (meta_cell g)) (column s.contents (names_cell g))) e
          ∙ ap (λ (x : ℕ). file_of (s.contents x (data_cell g)) (s.contents x (meta_cell g))) h
          ∙ ap (λ (c : Option Content). file_of c (s.contents set (meta_cell g))) d.content_is
          ∙ ap (λ (c : Option Content). file_of (Some (Bytes d.bytes)) c) m.content_is;
    }

-- ---- bytes

data_step : (s : Volumes) (count set : ℕ) (g : Gfid) (new : List ℕ) (files : Files) → AllShown s count → (f : IsFile s set g) → length new ≤ max_data → object_at files g ≡ Some (File new f.meta.mode f.meta.attrs)
    → ((q : Gfid) → q ≢ g → object_at files q ≡ object_at s.files q) → AllShown (put_in s set (data_cell g) (Some (Bytes new)) files) count
data_step s count set g new files all f short object others = all_with s count set (data_cell g) (Some (Bytes new)) files all others here
  where
    a : ShownOf s count g
    a = all g

    at_home : put_at s.contents set (data_cell g) (Some (Bytes new)) (s.homes g) (data_cell g) ≡ Some (Bytes new)
    at_home = ap (λ (x : ℕ). put_at s.contents set (data_cell g) (Some (Bytes new)) x (data_cell g)) f.home_is ∙ put_here s.contents set (data_cell g) (Some (Bytes new))

    same_bytes : (x y : List ℕ) → ◌≡◌ {A = Option Content} (Some (Bytes x)) (Some (Bytes y)) → x ≡ y
    same_bytes x y e = cc

    changed : ShownAt s.kinds s.homes count (s.kinds g) (s.homes g) (column (put_at s.contents set (data_cell g) (Some (Bytes new))) (data_cell g)) (column s.contents (meta_cell g)) (column s.contents (names_cell g)) (object_at files g)
    changed = record {
      object_is =
          object
          ∙ sym (
          ap (λ (k : Option Kind). shown_as count k (put_at s.contents set (data_cell g) (Some (Bytes new)) (s.homes g) (data_cell g)) (s.contents (s.homes g) (meta_cell g)) (s.contents 0 (meta_cell g)) (column s.contents (names_cell g))) f.kind_is
          ∙ ap (λ (c : Option Content). file_of c (s.contents (s.homes g) (meta_cell g))) at_home
          ∙ ap (λ (x : ℕ). file_of (Some (Bytes new)) (s.contents x (meta_cell g))) f.home_is
          ∙ ap (λ (c : Option Content). file_of (Some (Bytes new)) c) f.meta.content_is);
      directory = a.directory;
      datas = λ e. ap holds_bytes at_home;
      metas = a.metas;
      few = λ bytes e. subst (λ (l : List ℕ). length l ≤ max_data) (same_bytes new bytes (sym at_home ∙ e)) short;
      names = a.names;
      marked = a.marked;
      orphan = a.orphan;
    }

    here : ShownOf (put_in s set (data_cell g) (Some (Bytes new)) files) count g
    here = shown_with s.kinds s.homes count (s.kinds g) (s.homes g) (column (put_at s.contents set (data_cell g) (Some (Bytes new))) (data_cell g)) (column s.contents (meta_cell g)) (column s.contents (names_cell g)) _ _ _ (object_at files g) (object_at files g) changed
        refl
        (put_off s.contents set (data_cell g) (meta_cell g) (Some (Bytes new)) (λ e. data_meta g g (sym e)))
        (put_off s.contents set (data_cell g) (names_cell g) (Some (Bytes new)) (λ e. data_names g g (sym e)))
        refl

-- the edit of a file's bytes makes this of them
pub bytes_step : (s : Volumes) (count set : ℕ) (g : Gfid) (e : Edit) (change : List ℕ → List ℕ) (files : Files) → AllShown s count → (f : IsFile s set g) → ((bytes : List ℕ) → edited e (Bytes bytes) ≡ Bytes (change bytes))
    → (length f.body.bytes ≤ max_data → length (change f.body.bytes) ≤ max_data) → object_at files g ≡ Some (File (change f.body.bytes) f.meta.mode f.meta.attrs)
    → ((q : Gfid) → q ≢ g → object_at files q ≡ object_at s.files q) → AllShown (put_in s set (data_cell g) (edited_if_present e (s.contents set (data_cell g))) files) count
bytes_step s count set g e change files all f by short object others =
    subst (λ (x : Option Content). AllShown (put_in s set (data_cell g) x files) count) (sym (ap (λ (c : Option Content). edited_if_present e c) f.body.content_is ∙ ap (λ (c : Content). Some c) (by f.body.bytes)))
    (data_step s count set g (change f.body.bytes) files all f (short ((all g).few f.body.bytes (ap (λ (x : ℕ). s.contents x (data_cell g)) f.home_is ∙ f.body.content_is))) object others)

-- ---- metadata

-- an object with other mode and attributes
abbrev pub with_meta : (ℕ → ℕ) → (List Attr → List Attr) → FlatObject → FlatObject
with_meta f h (File bytes mode attrs) = File bytes (f mode) (h attrs)
with_meta f h (Directory names mode attrs removed) = Directory names (f mode) (h attrs) removed

-- the metadata of an object, where it is
module _ (s : Volumes) (count set : ℕ) (g : Gfid) (mode : ℕ) (attrs : List Attr) (span : Option Span) (files : Files) (all : AllShown s count) where
  held : (o : ℕ) → holds_meta (s.contents o (meta_cell g)) ≡ true → holds_meta (put_at s.contents set (meta_cell g) (Some (Meta mode attrs span)) o (meta_cell g)) ≡ true
  held o h = by_case (number_is o set)
    where
      by_case : (o ≡ set) ⊎ (o ≢ set) → holds_meta (put_at s.contents set (meta_cell g) (Some (Meta mode attrs span)) o (meta_cell g)) ≡ true
      by_case (inl e) = subst (λ (x : ℕ). holds_meta (put_at s.contents set (meta_cell g) (Some (Meta mode attrs span)) x (meta_cell g)) ≡ true) (sym e) (ap holds_meta (put_here s.contents set (meta_cell g) (Some (Meta mode attrs span))))
      by_case (inr d) = ap holds_meta (put_else s.contents set (meta_cell g) (Some (Meta mode attrs span)) o d) ∙ h

  pub meta_step : object_at files g ≡ shown_as count (s.kinds g) (s.contents (s.homes g) (data_cell g)) (put_at s.contents set (meta_cell g) (Some (Meta mode attrs span)) (s.homes g) (meta_cell g)) (put_at s.contents set (meta_cell g) (Some (Meta mode attrs span)) 0 (meta_cell g)) (column s.contents (names_cell g))
      → ((q : Gfid) → q ≢ g → object_at files q ≡ object_at s.files q) → AllShown (put_in s set (meta_cell g) (Some (Meta mode attrs span)) files) count
  meta_step object others = all_with s count set (meta_cell g) (Some (Meta mode attrs span)) files all others here
    where
      a : ShownOf s count g
      a = all g

      changed : ShownAt s.kinds s.homes count (s.kinds g) (s.homes g) (column s.contents (data_cell g)) (column (put_at s.contents set (meta_cell g) (Some (Meta mode attrs span))) (meta_cell g)) (column s.contents (names_cell g)) (object_at files g)
      changed = record {
        object_is = object;
        directory = λ e. held 0 (a.directory e);
        datas = a.datas;
        metas = λ e. held (s.homes g) (a.metas e);
        few = a.few;
        names = a.names;
        marked = a.marked;
        orphan = a.orphan;
      }

      here : ShownOf (put_in s set (meta_cell g) (Some (Meta mode attrs span)) files) count g
      here = shown_with s.kinds s.homes count (s.kinds g) (s.homes g) (column s.contents (data_cell g)) (column (put_at s.contents set (meta_cell g) (Some (Meta mode attrs span))) (meta_cell g)) (column s.contents (names_cell g)) _ _ _ (object_at files g) (object_at files g) changed
          (put_off s.contents set (meta_cell g) (data_cell g) (Some (Meta mode attrs span)) (data_meta g g))
          refl
          (put_off s.contents set (meta_cell g) (names_cell g) (Some (Meta mode attrs span)) (λ e. meta_names g g (sym e)))
          refl

  pub file_meta : (f : IsFile s set g) → object_at files g ≡ Some (File f.body.bytes mode attrs) → ((q : Gfid) → q ≢ g → object_at files q ≡ object_at s.files q) → AllShown (put_in s set (meta_cell g) (Some (Meta mode attrs span)) files) count
  file_meta f object others = meta_step (object ∙ sym shown) others
    where
      at_home : put_at s.contents set (meta_cell g) (Some (Meta mode attrs span)) (s.homes g) (meta_cell g) ≡ Some (Meta mode attrs span)
      at_home = ap (λ (x : ℕ). put_at s.contents set (meta_cell g) (Some (Meta mode attrs span)) x (meta_cell g)) f.home_is ∙ put_here s.contents set (meta_cell g) (Some (Meta mode attrs span))

      shown : shown_as count (s.kinds g) (s.contents (s.homes g) (data_cell g)) (put_at s.contents set (meta_cell g) (Some (Meta mode attrs span)) (s.homes g) (meta_cell g)) (put_at s.contents set (meta_cell g) (Some (Meta mode attrs span)) 0 (meta_cell g)) (column s.contents (names_cell g)) ≡ Some (File f.body.bytes mode attrs)
      shown =
          ap (λ (k : Option Kind). shown_as count k (s.contents (s.homes g) (data_cell g)) (put_at s.contents set (meta_cell g) (Some (Meta mode attrs span)) (s.homes g) (meta_cell g)) (put_at s.contents set (meta_cell g) (Some (Meta mode attrs span)) 0 (meta_cell g)) (column s.contents (names_cell g))) f.kind_is
          ∙ ap (λ (c : Option Content). file_of (s.contents (s.homes g) (data_cell g)) c) at_home
          ∙ ap (λ (x : ℕ). file_of (s.contents x (data_cell g)) (Some (Meta mode attrs span))) f.home_is
          ∙ ap (λ (c : Option Content). file_of c (Some (Meta mode attrs span))) f.body.content_is

  pub directory_meta : IsDirectory s count g → set ≡ 0 → object_at files g ≡ Some (Directory (names_in count (column s.contents (names_cell g))) mode attrs (is_removed (s.contents 0 (names_cell g))))
      → ((q : Gfid) → q ≢ g → object_at files q ≡ object_at s.files q) → AllShown (put_in s set (meta_cell g) (Some (Meta mode attrs span)) files) count
  directory_meta dir first object others = meta_step (object ∙ sym shown) others
    where
      at_first : put_at s.contents set (meta_cell g) (Some (Meta mode attrs span)) 0 (meta_cell g) ≡ Some (Meta mode attrs span)
      at_first = ap (λ (x : ℕ). put_at s.contents set (meta_cell g) (Some (Meta mode attrs span)) x (meta_cell g)) (sym first) ∙ put_here s.contents set (meta_cell g) (Some (Meta mode attrs span))

      shown : shown_as count (s.kinds g) (s.contents (s.homes g) (data_cell g)) (put_at s.contents set (meta_cell g) (Some (Meta mode attrs span)) (s.homes g) (meta_cell g)) (put_at s.contents set (meta_cell g) (Some (Meta mode attrs span)) 0 (meta_cell g)) (column s.contents (names_cell g))
          ≡ Some (Directory (names_in count (column s.contents (names_cell g))) mode attrs (is_removed (s.contents 0 (names_cell g))))
      shown =
          ap (λ (k : Option Kind). shown_as count k (s.contents (s.homes g) (data_cell g)) (put_at s.contents set (meta_cell g) (Some (Meta mode attrs span)) (s.homes g) (meta_cell g)) (put_at s.contents set (meta_cell g) (Some (Meta mode attrs span)) 0 (meta_cell g)) (column s.contents (names_cell g))) dir.kind_is
          ∙ ap (λ (c : Option Content). directory_of c (is_removed (s.contents 0 (names_cell g))) (names_in count (column s.contents (names_cell g)))) at_first

-- an edit of an object's metadata where it is: a file's on its home, a directory's on the first set
pub edit_meta : (s : Volumes) (count set : ℕ) (g : Gfid) (e : Edit) (f : ℕ → ℕ) (h : List Attr → List Attr) (files : Files) (object : FlatObject) → AllShown s count
    → ((mode : ℕ) (attrs : List Attr) (span : Option Span) → edited e (Meta mode attrs span) ≡ Meta (f mode) (h attrs) span) → (s.kinds g ≡ Some kind.File → s.homes g ≡ set) → (s.kinds g ≡ Some kind.Dir → set ≡ 0) → object_at s.files g ≡ Some object
    → object_at files g ≡ Some (with_meta f h object) → ((q : Gfid) → q ≢ g → object_at files q ≡ object_at s.files q) → AllShown (put_in s set (meta_cell g) (edited_if_present e (s.contents set (meta_cell g))) files) count
edit_meta s count set g e f h files object all by home first was now others = by_kind (s.kinds g) refl
  where
    same_object : (a b : FlatObject) → ◌≡◌ {A = Option FlatObject} (Some a) (Some b) → a ≡ b
    same_object a b p = cc

    edits_to : (c : Option Content) (m : IsMeta c) → edited_if_present e c ≡ Some (Meta (f m.mode) (h m.attrs) m.span)
    edits_to c m = ap (λ (x : Option Content). edited_if_present e x) m.content_is ∙ ap (λ (x : Content). Some x) (by m.mode m.attrs m.span)

    none : (k : Option Kind) → s.kinds g ≡ k → shown_as count k (s.contents (s.homes g) (data_cell g)) (s.contents (s.homes g) (meta_cell g)) (s.contents 0 (meta_cell g)) (column s.contents (names_cell g)) ≡ Some object
    none k p = sym (ap (λ (x : Option Kind). shown_as count x (s.contents (s.homes g) (data_cell g)) (s.contents (s.homes g) (meta_cell g)) (s.contents 0 (meta_cell g)) (column s.contents (names_cell g))) p) ∙ sym (all g).object_is ∙ was

    no_object : {A : Type 0} → ◌≡◌ {A = Option FlatObject} None (Some object) → A
    no_object p = absurd cc

    of_file : s.kinds g ≡ Some kind.File → AllShown (put_in s set (meta_cell g) (edited_if_present e (s.contents set (meta_cell g))) files) count
    of_file k =
        let file = file_made s count set g (all g) k (home k) in
        subst (λ (x : Option Content). AllShown (put_in s set (meta_cell g) x files) count) (sym (edits_to (s.contents set (meta_cell g)) file.meta))
        (file_meta s count set g (f file.meta.mode) (h file.meta.attrs) file.meta.span files all file
        (now ∙ ap (λ (o : FlatObject). Some (with_meta f h o)) (same_object object (File file.body.bytes file.meta.mode file.meta.attrs) (sym was ∙ file.object_is))) others)

    of_directory : s.kinds g ≡ Some kind.Dir → AllShown (put_in s set (meta_cell g) (edited_if_present e (s.contents set (meta_cell g))) files) count
    of_directory k =
        let dir = directory_made s count g (all g) k in
        subst (λ (x : Option Content). AllShown (put_in s set (meta_cell g) x files) count)
        (sym (ap (λ (o : ℕ). edited_if_present e (s.contents o (meta_cell g))) (first k) ∙ edits_to (s.contents 0 (meta_cell g)) dir.meta))
        (directory_meta s count set g (f dir.meta.mode) (h dir.meta.attrs) dir.meta.span files all dir (first k)
        (now ∙ ap (λ (o : FlatObject). Some (with_meta f h o)) (same_object object (Directory (names_in count (column s.contents (names_cell g))) dir.meta.mode dir.meta.attrs (is_removed (s.contents 0 (names_cell g)))) (sym was ∙ dir.object_is))) others)

    by_kind : (k : Option Kind) → s.kinds g ≡ k → AllShown (put_in s set (meta_cell g) (edited_if_present e (s.contents set (meta_cell g))) files) count
    by_kind None k = no_object (none None k)
    by_kind (Some kind.File) k = of_file k
    by_kind (Some kind.Dir) k = of_directory k
    by_kind (Some kind.Link) k = no_object (none (Some kind.Link) k)
