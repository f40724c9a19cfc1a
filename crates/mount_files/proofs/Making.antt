-- The sets show the flat file system after the cells of a new object were born on its set, after a directory's copy was born
-- on a set, and after a directory was marked removed.
use Rattle.std.proofs.Common.{◌≡◌, ◌≢◌, ◌⊎◌, inl, inr, ◌∙◌, ℕ, ◌<◌, ◌≤◌, Bool, true, false, List, [], ◌∷◌, Option, Some, None, if◌then◌else◌, length, refl, ap, sym, subst, arith}
use Rattle.std.proofs.Math.Path.{fun_ext}
use Rattle.std.proofs.lemmas.Cmp.{tied_itself}
use Rattle.std.specs.List.{range_with_len}
use Rattle.std.specs.Ordering.{is_eq}
use Rattle.dht_fops.specs.Shown.{Homes, file_of, directory_of}
use Rattle.dht_fops.specs.Merges.{merged, real_items}
use Rattle.dht_fops.specs.Standing.{Volumes}
use Rattle.fop_types.proofs.MapLemmas.{gfid_cmp_total, gfid_exact, apart}
use Rattle.fop_types.specs.Bounds.{Each}
use Rattle.fop_types.specs.Cells.{data_cell, meta_cell, names_cell}
use Rattle.fop_types.specs.Files.{Files, object_at, new_file, new_directory}
use Rattle.fop_types.specs.Limits.{max_data}
use Rattle.fop_types.specs.Names.{item_named}
use Rattle.fop_types.specs.Orders.{gfid_cmp}
use Rattle.fop_types.specs.StoreOps.{Contents, edited_if_present, items_of, is_removed, holds_bytes, holds_meta, holds_names, with_content, born, born_if_absent, after_births}
use Rattle.fop_types.specs.StoreOps.Edit.{MarkRemoved}
use Rattle.fop_types.specs.declared.cells.Aspect.{Aspect}
use Rattle.fop_types.specs.declared.cells.Aspect.TheVariants as aspect
use Rattle.fop_types.specs.declared.cells.Cell.{Cell}
use Rattle.fop_types.specs.declared.cells.Gfid.{Gfid}
use Rattle.fop_types.specs.declared.cells.Kind.{Kind}
use Rattle.fop_types.specs.declared.cells.Kind.TheVariants as kind
use Rattle.fop_types.specs.declared.contents.Attr.{Attr}
use Rattle.fop_types.specs.declared.contents.Content.{Content}
use Rattle.fop_types.specs.declared.contents.Content.TheVariants.{Bytes, Meta, Names}
use Rattle.fop_types.specs.declared.contents.Item.{Item}
use Rattle.fop_types.specs.declared.contents.Span.{Span}
use Rattle.fop_types.specs.declared.flat.FlatObject.{FlatObject}
use Rattle.fop_types.specs.declared.flat.FlatObject.TheVariants.{File, Directory}
use Rattle.mount_files.proofs.Cells.{put_at, put_in, put_off, put_here, put_else, data_meta, data_names, meta_names, number_is, all_with, content_off, content_here, set_here, set_off, column_off}
use Rattle.mount_files.proofs.Families.{AreNamesSound, over_free}
use Rattle.mount_files.proofs.Local.{Column, column, items_in, names_in, shown_as, ShownAt, ShownOf, AllShown, shown_with, shown_grows, Grows, names_grow, gfid_is}
use Rattle.mount_files.proofs.Merges.{Family, over}
use Rattle.mount_files.proofs.Naming.{IsDirectory, shown_again}
use Rattle.afr_machine.specs.Replicas.{with_at}
use Rattle.mount_laws.specs.Steps.{with_kind, with_home}

-- ---- births

pub births_off : (bs : List (Cell × Content)) (contents : Contents) (cell : Cell) → Each (λ (b : Cell × Content). cell ≢ b.0) bs → after_births contents bs cell ≡ contents cell
births_off [] contents cell off = refl
births_off (b ∷ bs) contents cell off =
    births_off bs (with_content contents b.0 (born_if_absent b.1 (contents b.0))) cell off.1 ∙ content_off contents b.0 cell (born_if_absent b.1 (contents b.0)) off.0

first_birth : (contents : Contents) (a b : Cell) (x y : Content) → a ≢ b → after_births contents ((a, x) ∷ (b, y) ∷ []) a ≡ born_if_absent x (contents a)
first_birth contents a b x y d =
    content_off (with_content contents a (born_if_absent x (contents a))) b a (born_if_absent y (with_content contents a (born_if_absent x (contents a)) b)) d
    ∙ content_here contents a (born_if_absent x (contents a))

second_birth : (contents : Contents) (a b : Cell) (x y : Content) → b ≢ a → after_births contents ((a, x) ∷ (b, y) ∷ []) b ≡ born_if_absent y (contents b)
second_birth contents a b x y d =
    content_here (with_content contents a (born_if_absent x (contents a))) b (born_if_absent y (with_content contents a (born_if_absent x (contents a)) b))
    ∙ ap (λ (c : Option Content). born_if_absent y c) (content_off contents a b (born_if_absent x (contents a)) d)

-- the cells of an object are not those of another
pub born_of_others : (k : Kind) (g : Gfid) (mode : ℕ) (span : Option Span) (cell : Cell) → cell.gfid ≢ g → Each (λ (b : Cell × Content). cell ≢ b.0) (born k g mode span)
born_of_others kind.File g mode span cell d = (λ e. d (ap (λ (c : Cell). c.gfid) e), (λ e. d (ap (λ (c : Cell). c.gfid) e), tt))
born_of_others kind.Dir g mode span cell d = (λ e. d (ap (λ (c : Cell). c.gfid) e), (λ e. d (ap (λ (c : Cell). c.gfid) e), tt))
born_of_others kind.Link g mode span cell d = tt

-- ---- tables with a new object

kind_here : (kinds : Gfid → Option Kind) (g : Gfid) (k : Kind) → with_kind kinds g k g ≡ Some k
kind_here kinds g k = ap (λ (b : Bool). if b then Some k else kinds g) (ap is_eq (tied_itself gfid_cmp_total g))

pub kind_off : (kinds : Gfid → Option Kind) (g q : Gfid) (k : Kind) → q ≢ g → with_kind kinds g k q ≡ kinds q
kind_off kinds g q k d = ap (λ (b : Bool). if b then Some k else kinds q) (apart gfid_cmp gfid_exact q g d)

home_here : (homes : Homes) (g : Gfid) (set : ℕ) → with_home homes g set g ≡ set
home_here homes g set = ap (λ (b : Bool). if b then set else homes g) (ap is_eq (tied_itself gfid_cmp_total g))

home_off : (homes : Homes) (g q : Gfid) (set : ℕ) → q ≢ g → with_home homes g set q ≡ homes q
home_off homes g q set d = ap (λ (b : Bool). if b then set else homes q) (apart gfid_cmp gfid_exact q g d)

pub made_grows : (kinds : Gfid → Option Kind) (homes : Homes) (g : Gfid) (k : Kind) (set : ℕ) → kinds g ≡ None → Grows kinds (with_kind kinds g k) homes (with_home homes g set)
made_grows kinds homes g k set none = record { kind = λ q l e. kind_off kinds g q k (differ q l e) ∙ e; home = λ q l e. home_off homes g q set (differ q l e) }
  where
    differ : (q : Gfid) (l : Kind) → kinds q ≡ Some l → q ≢ g
    differ q l e f = let no : kinds q ≡ None = subst (λ (x : Gfid). kinds x ≡ None) (sym f) none in absurd cc

shown_by : (kinds : Gfid → Option Kind) (homes : Homes) (count : ℕ) (k k2 : Option Kind) (home home2 : ℕ) (body meta entry : Column) (object : Option FlatObject) → k2 ≡ k → home2 ≡ home
    → ShownAt kinds homes count k home body meta entry object → ShownAt kinds homes count k2 home2 body meta entry object
shown_by kinds homes count k k2 home home2 body meta entry object ke he a =
    subst (λ (x : Option Kind). ShownAt kinds homes count x home2 body meta entry object) (sym ke) (subst (λ (x : ℕ). ShownAt kinds homes count k x body meta entry object) (sym he) a)

over_empty : (family : Family) (sets : List ℕ) → ((set : ℕ) → family set ≡ []) → over family sets [] ≡ []
over_empty family [] none = refl
over_empty family (set ∷ sets) none = ap (λ (l : List Item). over family sets (merged [] (real_items l))) (none set) ∙ over_empty family sets none

-- ---- a new object

abbrev pub making : Volumes → ℕ → Gfid → Kind → ℕ → Option Span → Files → Volumes
making s set g k mode span files = record {
  contents = with_at s.contents set (after_births (s.contents set) (born k g mode span));
  homes = with_home s.homes g set;
  kinds = with_kind s.kinds g k;
  files = files;
}

-- no cell of the object is on the set
abbrev pub IsAbsent : Volumes → ℕ → Gfid → Type 0
IsAbsent s set g = (a : Aspect) → s.contents set (record { gfid = g; aspect = a }) ≡ None

making_others : (s : Volumes) (count set : ℕ) (g : Gfid) (k : Kind) (mode : ℕ) (span : Option Span) (files : Files) → AllShown s count → s.kinds g ≡ None → ((q : Gfid) → q ≢ g → object_at files q ≡ object_at s.files q)
    → (q : Gfid) → q ≢ g → ShownOf (making s set g k mode span files) count q
making_others s count set g k mode span files all none others q d =
    shown_with (with_kind s.kinds g k) (with_home s.homes g set) count (with_kind s.kinds g k q) (with_home s.homes g set q) (column s.contents (data_cell q)) (column s.contents (meta_cell q)) (column s.contents (names_cell q)) _ _ _ (object_at s.files q) (object_at files q)
    (shown_grows s.kinds (with_kind s.kinds g k) s.homes (with_home s.homes g set) count (s.kinds q) (with_kind s.kinds g k q) (s.homes q) (with_home s.homes g set q) (column s.contents (data_cell q)) (column s.contents (meta_cell q)) (column s.contents (names_cell q)) (object_at s.files q)
    (made_grows s.kinds s.homes g k set none) (kind_off s.kinds g q k d) (home_off s.homes g q set d) (all q))
    (column_off s.contents set (after_births (s.contents set) (born k g mode span)) (data_cell q) (births_off (born k g mode span) (s.contents set) (data_cell q) (born_of_others k g mode span (data_cell q) d)))
    (column_off s.contents set (after_births (s.contents set) (born k g mode span)) (meta_cell q) (births_off (born k g mode span) (s.contents set) (meta_cell q) (born_of_others k g mode span (meta_cell q) d)))
    (column_off s.contents set (after_births (s.contents set) (born k g mode span)) (names_cell q) (births_off (born k g mode span) (s.contents set) (names_cell q) (born_of_others k g mode span (names_cell q) d)))
    (others q d)

born_some : (x : Content) (c : Option Content) → c ≡ None → born_if_absent x c ≡ Some x
born_some x c e = ap (λ (o : Option Content). born_if_absent x o) e

making_file : (s : Volumes) (count set : ℕ) (g : Gfid) (mode : ℕ) (span : Option Span) (files : Files) → AllShown s count → s.kinds g ≡ None → IsAbsent s set g → object_at files g ≡ Some (new_file mode) → ShownOf (making s set g kind.File mode span files) count g
making_file s count set g mode span files all none absent object =
    shown_with (with_kind s.kinds g kind.File) (with_home s.homes g set) count (with_kind s.kinds g kind.File g) (with_home s.homes g set g) body meta (column s.contents (names_cell g)) _ _ _ (object_at files g) (object_at files g)
    (shown_by (with_kind s.kinds g kind.File) (with_home s.homes g set) count (Some kind.File) (with_kind s.kinds g kind.File g) set (with_home s.homes g set g) body meta (column s.contents (names_cell g)) (object_at files g)
    (kind_here s.kinds g kind.File) (home_here s.homes g set) made)
    refl refl
    (column_off s.contents set new (names_cell g) (births_off (born kind.File g mode span) (s.contents set) (names_cell g) ((λ e. data_names g g (sym e)), ((λ e. meta_names g g (sym e)), tt))))
    refl
  where
    new : Contents
    new = after_births (s.contents set) (born kind.File g mode span)

    body : Column
    body = column (with_at s.contents set (after_births (s.contents set) (born kind.File g mode span))) (data_cell g)

    meta : Column
    meta = column (with_at s.contents set (after_births (s.contents set) (born kind.File g mode span))) (meta_cell g)

    data_is : with_at s.contents set (after_births (s.contents set) (born kind.File g mode span)) set (data_cell g) ≡ Some (Bytes [])
    data_is =
        ap (λ (c : Contents). c (data_cell g)) (set_here s.contents set (after_births (s.contents set) (born kind.File g mode span)))
        ∙ first_birth (s.contents set) (data_cell g) (meta_cell g) (Bytes []) (Meta mode [] span) (data_meta g g) ∙ born_some (Bytes []) (s.contents set (data_cell g)) (absent aspect.Data)

    meta_is : with_at s.contents set (after_births (s.contents set) (born kind.File g mode span)) set (meta_cell g) ≡ Some (Meta mode [] span)
    meta_is =
        ap (λ (c : Contents). c (meta_cell g)) (set_here s.contents set (after_births (s.contents set) (born kind.File g mode span)))
        ∙ second_birth (s.contents set) (data_cell g) (meta_cell g) (Bytes []) (Meta mode [] span) (λ e. data_meta g g (sym e)) ∙ born_some (Meta mode [] span) (s.contents set (meta_cell g)) (absent aspect.Meta)

    no_bytes : (bytes : List ℕ) → ◌≡◌ {A = Option Content} (Some (Bytes [])) (Some (Bytes bytes)) → [] ≡ bytes
    no_bytes bytes e = cc

    made : ShownAt (with_kind s.kinds g kind.File) (with_home s.homes g set) count (Some kind.File) set (column (with_at s.contents set (after_births (s.contents set) (born kind.File g mode span))) (data_cell g))
        (column (with_at s.contents set (after_births (s.contents set) (born kind.File g mode span))) (meta_cell g)) (column s.contents (names_cell g)) (object_at files g)
    made = record {
      object_is = object ∙ sym (ap (λ (c : Option Content). file_of c (with_at s.contents set (after_births (s.contents set) (born kind.File g mode span)) set (meta_cell g))) data_is ∙ ap (λ (c : Option Content). file_of (Some (Bytes [])) c) meta_is);
      directory = λ e. absurd cc;
      datas = λ e. ap holds_bytes data_is;
      metas = λ e. ap holds_meta meta_is;
      few = λ bytes e. subst (λ (l : List ℕ). length l ≤ max_data) (no_bytes bytes (sym data_is ∙ e)) (omega arith);
      names = names_grow s.kinds (with_kind s.kinds g kind.File) s.homes (with_home s.homes g set) count (is_removed (s.contents 0 (names_cell g))) (items_in (column s.contents (names_cell g))) (made_grows s.kinds s.homes g kind.File set none) (all g).names;
      marked = (all g).marked;
      orphan = λ e. absurd cc;
    }

making_directory : (s : Volumes) (count : ℕ) (g : Gfid) (mode : ℕ) (span : Option Span) (files : Files) → AllShown s count → s.kinds g ≡ None → IsAbsent s 0 g → object_at files g ≡ Some (new_directory mode) → ShownOf (making s 0 g kind.Dir mode span files) count g
making_directory s count g mode span files all none absent object =
    shown_with (with_kind s.kinds g kind.Dir) (with_home s.homes g 0) count (with_kind s.kinds g kind.Dir g) (with_home s.homes g 0 g) (column s.contents (data_cell g)) meta entry _ _ _ (object_at files g) (object_at files g)
    (shown_by (with_kind s.kinds g kind.Dir) (with_home s.homes g 0) count (Some kind.Dir) (with_kind s.kinds g kind.Dir g) 0 (with_home s.homes g 0 g) (column s.contents (data_cell g)) meta entry (object_at files g)
    (kind_here s.kinds g kind.Dir) (home_here s.homes g 0) made)
    (column_off s.contents 0 (after_births (s.contents 0) (born kind.Dir g mode span)) (data_cell g) (births_off (born kind.Dir g mode span) (s.contents 0) (data_cell g) (data_meta g g, (data_names g g, tt))))
    refl refl refl
  where
    meta : Column
    meta = column (with_at s.contents 0 (after_births (s.contents 0) (born kind.Dir g mode span))) (meta_cell g)

    entry : Column
    entry = column (with_at s.contents 0 (after_births (s.contents 0) (born kind.Dir g mode span))) (names_cell g)

    meta_is : with_at s.contents 0 (after_births (s.contents 0) (born kind.Dir g mode span)) 0 (meta_cell g) ≡ Some (Meta mode [] span)
    meta_is = first_birth (s.contents 0) (meta_cell g) (names_cell g) (Meta mode [] span) (Names false []) (meta_names g g) ∙ born_some (Meta mode [] span) (s.contents 0 (meta_cell g)) (absent aspect.Meta)

    entry_is : with_at s.contents 0 (after_births (s.contents 0) (born kind.Dir g mode span)) 0 (names_cell g) ≡ Some (Names false [])
    entry_is = second_birth (s.contents 0) (meta_cell g) (names_cell g) (Meta mode [] span) (Names false []) (λ e. meta_names g g (sym e)) ∙ born_some (Names false []) (s.contents 0 (names_cell g)) (absent aspect.Entry)

    off : (o : ℕ) → o ≢ 0 → with_at s.contents 0 (after_births (s.contents 0) (born kind.Dir g mode span)) o (names_cell g) ≡ s.contents o (names_cell g)
    off o d = ap (λ (c : Contents). c (names_cell g)) (set_off s.contents 0 o (after_births (s.contents 0) (born kind.Dir g mode span)) d)

    list_none : (o : ℕ) → items_of (with_at s.contents 0 (after_births (s.contents 0) (born kind.Dir g mode span)) o (names_cell g)) ≡ []
    list_none o = by_case (number_is o 0)
      where
        by_case : (o ≡ 0) ⊎ (o ≢ 0) → items_of (with_at s.contents 0 (after_births (s.contents 0) (born kind.Dir g mode span)) o (names_cell g)) ≡ []
        by_case (inl e) = subst (λ (x : ℕ). items_of (with_at s.contents 0 (after_births (s.contents 0) (born kind.Dir g mode span)) x (names_cell g)) ≡ []) (sym e) (ap items_of entry_is)
        by_case (inr d) = ap items_of (off o d) ∙ (all g).orphan none o

    lists : items_in (column (with_at s.contents 0 (after_births (s.contents 0) (born kind.Dir g mode span))) (names_cell g)) ≡ items_in (column s.contents (names_cell g))
    lists = fun_ext (λ o. list_none o ∙ sym ((all g).orphan none o))

    mark : is_removed (with_at s.contents 0 (after_births (s.contents 0) (born kind.Dir g mode span)) 0 (names_cell g)) ≡ is_removed (s.contents 0 (names_cell g))
    mark = ap is_removed entry_is ∙ sym (ap is_removed (absent aspect.Entry))

    no_data : {A : Type 0} → (bytes : List ℕ) → s.contents 0 (data_cell g) ≡ Some (Bytes bytes) → A
    no_data bytes e = let no : s.contents 0 (data_cell g) ≡ None = absent aspect.Data in absurd cc

    made : ShownAt (with_kind s.kinds g kind.Dir) (with_home s.homes g 0) count (Some kind.Dir) 0 (column s.contents (data_cell g)) (column (with_at s.contents 0 (after_births (s.contents 0) (born kind.Dir g mode span))) (meta_cell g))
        (column (with_at s.contents 0 (after_births (s.contents 0) (born kind.Dir g mode span))) (names_cell g)) (object_at files g)
    made = record {
      object_is =
          object
          ∙ sym (
          ap (λ (c : Option Content). directory_of c (is_removed (with_at s.contents 0 (after_births (s.contents 0) (born kind.Dir g mode span)) 0 (names_cell g))) (names_in count (column (with_at s.contents 0 (after_births (s.contents 0) (born kind.Dir g mode span))) (names_cell g)))) meta_is
          ∙ ap (λ (b : Bool). Some (Directory (names_in count (column (with_at s.contents 0 (after_births (s.contents 0) (born kind.Dir g mode span))) (names_cell g))) mode [] b)) (ap is_removed entry_is)
          ∙ ap (λ (l : List Item). Some (Directory l mode [] false)) (over_empty (items_in (column (with_at s.contents 0 (after_births (s.contents 0) (born kind.Dir g mode span))) (names_cell g))) (range_with_len 0 count) list_none));
      directory = λ e. ap holds_meta meta_is;
      datas = λ e. absurd cc;
      metas = λ e. absurd cc;
      few = λ bytes e. no_data bytes e;
      names = subst (λ (b : Bool). AreNamesSound (with_kind s.kinds g kind.Dir) (with_home s.homes g 0) count b (items_in (column (with_at s.contents 0 (after_births (s.contents 0) (born kind.Dir g mode span))) (names_cell g)))) (sym mark)
          (subst (λ (l : Family). AreNamesSound (with_kind s.kinds g kind.Dir) (with_home s.homes g 0) count (is_removed (s.contents 0 (names_cell g))) l) (sym lists)
          (names_grow s.kinds (with_kind s.kinds g kind.Dir) s.homes (with_home s.homes g 0) count (is_removed (s.contents 0 (names_cell g))) (items_in (column s.contents (names_cell g))) (made_grows s.kinds s.homes g kind.Dir 0 none) (all g).names));
      marked = λ o high. ap is_removed (off o (λ e. positive o e high)) ∙ (all g).marked o high;
      orphan = λ e. absurd cc;
    }
      where
        positive : (o : ℕ) → o ≡ 0 → 0 < o → ⊥
        positive o e h = omega (arith, e, h)

abbrev pub new_object : Kind → ℕ → FlatObject
new_object kind.File mode = new_file mode
new_object kind.Dir mode = new_directory mode
new_object kind.Link mode = new_file mode

pub new_step : (s : Volumes) (count set : ℕ) (g : Gfid) (k : Kind) (mode : ℕ) (span : Option Span) (files : Files) → AllShown s count → s.kinds g ≡ None → IsAbsent s set g → (k ≡ kind.Dir → set ≡ 0) → (k ≡ kind.Link → ⊥)
    → object_at files g ≡ Some (new_object k mode) → ((q : Gfid) → q ≢ g → object_at files q ≡ object_at s.files q) → AllShown (making s set g k mode span files) count
new_step s count set g k mode span files all none absent first no_link object others q = by_case (gfid_is q g)
  where
    here : (l : Kind) → k ≡ l → object_at files g ≡ Some (new_object l mode) → ShownOf (making s set g l mode span files) count g
    here kind.File e o = making_file s count set g mode span files all none absent o
    here kind.Dir e o =
        subst (λ (x : ℕ). ShownOf (making s x g kind.Dir mode span files) count g) (sym (first e))
        (making_directory s count g mode span files all none (subst (λ (x : ℕ). IsAbsent s x g) (first e) absent) o)
    here kind.Link e o = absurd (no_link e)

    by_case : (q ≡ g) ⊎ (q ≢ g) → ShownOf (making s set g k mode span files) count q
    by_case (inl e) = subst (λ (x : Gfid). ShownOf (making s set g k mode span files) count x) (sym e) (here k refl object)
    by_case (inr d) = making_others s count set g k mode span files all none others q d

-- ---- a directory's copy on a set

abbrev pub copying : Volumes → ℕ → Gfid → Option Span → Volumes
copying s set g span = record s { contents = with_at s.contents set (after_births (s.contents set) (born kind.Dir g 0 span)) }

pub copy_step : (s : Volumes) (count set : ℕ) (g : Gfid) (span : Option Span) → AllShown s count → AllShown (copying s set g span) count
copy_step s count set g span all q = by_case (gfid_is q g)
  where
    new : Contents
    new = after_births (s.contents set) (born kind.Dir g 0 span)

    a : ShownOf s count g
    a = all g

    meta : Column
    meta = column (with_at s.contents set (after_births (s.contents set) (born kind.Dir g 0 span))) (meta_cell g)

    entry : Column
    entry = column (with_at s.contents set (after_births (s.contents set) (born kind.Dir g 0 span))) (names_cell g)

    present : (x : Content) (c : Option Content) → holds_meta c ≡ true → born_if_absent x c ≡ c
    present x None h = absurd cc
    present x (Some c) h = refl

    meta_same : (o : ℕ) → holds_meta (s.contents o (meta_cell g)) ≡ true → with_at s.contents set (after_births (s.contents set) (born kind.Dir g 0 span)) o (meta_cell g) ≡ s.contents o (meta_cell g)
    meta_same o h = by_number (number_is o set)
      where
        by_number : (o ≡ set) ⊎ (o ≢ set) → with_at s.contents set (after_births (s.contents set) (born kind.Dir g 0 span)) o (meta_cell g) ≡ s.contents o (meta_cell g)
        by_number (inl e) =
            subst (λ (x : ℕ). with_at s.contents set (after_births (s.contents set) (born kind.Dir g 0 span)) x (meta_cell g) ≡ s.contents x (meta_cell g)) (sym e)
            (ap (λ (c : Contents). c (meta_cell g)) (set_here s.contents set (after_births (s.contents set) (born kind.Dir g 0 span)))
            ∙ first_birth (s.contents set) (meta_cell g) (names_cell g) (Meta 0 [] span) (Names false []) (meta_names g g)
            ∙ present (Meta 0 [] span) (s.contents set (meta_cell g)) (subst (λ (x : ℕ). holds_meta (s.contents x (meta_cell g)) ≡ true) e h))
        by_number (inr d) = ap (λ (c : Contents). c (meta_cell g)) (set_off s.contents set o (after_births (s.contents set) (born kind.Dir g 0 span)) d)

    same_of : {A : Type 0} → (f : Option Content → A) → ((c : Option Content) → f (born_if_absent (Names false []) c) ≡ f c) → (o : ℕ) → f (with_at s.contents set (after_births (s.contents set) (born kind.Dir g 0 span)) o (names_cell g)) ≡ f (s.contents o (names_cell g))
    same_of f same o = by_number (number_is o set)
      where
        by_number : (o ≡ set) ⊎ (o ≢ set) → f (with_at s.contents set (after_births (s.contents set) (born kind.Dir g 0 span)) o (names_cell g)) ≡ f (s.contents o (names_cell g))
        by_number (inl e) =
            subst (λ (x : ℕ). f (with_at s.contents set (after_births (s.contents set) (born kind.Dir g 0 span)) x (names_cell g)) ≡ f (s.contents x (names_cell g))) (sym e)
            (ap (λ (c : Contents). f (c (names_cell g))) (set_here s.contents set (after_births (s.contents set) (born kind.Dir g 0 span)))
            ∙ ap f (second_birth (s.contents set) (meta_cell g) (names_cell g) (Meta 0 [] span) (Names false []) (λ e. meta_names g g (sym e))) ∙ same (s.contents set (names_cell g)))
        by_number (inr d) = ap (λ (c : Contents). f (c (names_cell g))) (set_off s.contents set o (after_births (s.contents set) (born kind.Dir g 0 span)) d)

    items_same : (c : Option Content) → items_of (born_if_absent (Names false []) c) ≡ items_of c
    items_same None = refl
    items_same (Some c) = refl

    mark_same : (c : Option Content) → is_removed (born_if_absent (Names false []) c) ≡ is_removed c
    mark_same None = refl
    mark_same (Some c) = refl

    lists : items_in (column (with_at s.contents set (after_births (s.contents set) (born kind.Dir g 0 span))) (names_cell g)) ≡ items_in (column s.contents (names_cell g))
    lists = fun_ext (λ o. same_of items_of items_same o)

    object : (k : Option Kind) → s.kinds g ≡ k
        → shown_as count k (s.contents (s.homes g) (data_cell g)) (with_at s.contents set (after_births (s.contents set) (born kind.Dir g 0 span)) (s.homes g) (meta_cell g)) (with_at s.contents set (after_births (s.contents set) (born kind.Dir g 0 span)) 0 (meta_cell g)) (column (with_at s.contents set (after_births (s.contents set) (born kind.Dir g 0 span))) (names_cell g))
        ≡ shown_as count k (s.contents (s.homes g) (data_cell g)) (s.contents (s.homes g) (meta_cell g)) (s.contents 0 (meta_cell g)) (column s.contents (names_cell g))
    object None e = refl
    object (Some kind.File) e = ap (λ (c : Option Content). file_of (s.contents (s.homes g) (data_cell g)) c) (meta_same (s.homes g) (a.metas e))
    object (Some kind.Dir) e =
        ap (λ (c : Option Content). directory_of c (is_removed (with_at s.contents set (after_births (s.contents set) (born kind.Dir g 0 span)) 0 (names_cell g))) (names_in count (column (with_at s.contents set (after_births (s.contents set) (born kind.Dir g 0 span))) (names_cell g)))) (meta_same 0 (a.directory e))
        ∙ shown_again count (Some kind.Dir) (s.contents (s.homes g) (data_cell g)) (s.contents (s.homes g) (meta_cell g)) (s.contents 0 (meta_cell g)) (column s.contents (names_cell g)) (column (with_at s.contents set (after_births (s.contents set) (born kind.Dir g 0 span))) (names_cell g))
        (same_of is_removed mark_same 0) (ap (λ (l : Family). over l (range_with_len 0 count) []) lists)
    object (Some kind.Link) e = refl

    changed : ShownAt s.kinds s.homes count (s.kinds g) (s.homes g) (column s.contents (data_cell g)) (column (with_at s.contents set (after_births (s.contents set) (born kind.Dir g 0 span))) (meta_cell g))
        (column (with_at s.contents set (after_births (s.contents set) (born kind.Dir g 0 span))) (names_cell g)) (object_at s.files g)
    changed = record {
      object_is = a.object_is ∙ sym (object (s.kinds g) refl);
      directory = λ e. ap holds_meta (meta_same 0 (a.directory e)) ∙ a.directory e;
      datas = a.datas;
      metas = λ e. ap holds_meta (meta_same (s.homes g) (a.metas e)) ∙ a.metas e;
      few = a.few;
      names = subst (λ (b : Bool). AreNamesSound s.kinds s.homes count b (items_in (column (with_at s.contents set (after_births (s.contents set) (born kind.Dir g 0 span))) (names_cell g)))) (sym (same_of is_removed mark_same 0))
          (subst (λ (l : Family). AreNamesSound s.kinds s.homes count (is_removed (s.contents 0 (names_cell g))) l) (sym lists) a.names);
      marked = λ o high. same_of is_removed mark_same o ∙ a.marked o high;
      orphan = λ e o. same_of items_of items_same o ∙ a.orphan e o;
    }

    here : ShownOf (copying s set g span) count g
    here = shown_with s.kinds s.homes count (s.kinds g) (s.homes g) (column s.contents (data_cell g)) (column (with_at s.contents set (after_births (s.contents set) (born kind.Dir g 0 span))) (meta_cell g))
        (column (with_at s.contents set (after_births (s.contents set) (born kind.Dir g 0 span))) (names_cell g)) _ _ _ (object_at s.files g) (object_at s.files g) changed
        (column_off s.contents set (after_births (s.contents set) (born kind.Dir g 0 span)) (data_cell g) (births_off (born kind.Dir g 0 span) (s.contents set) (data_cell g) (data_meta g g, (data_names g g, tt)))) refl refl refl

    others : q ≢ g → ShownOf (copying s set g span) count q
    others d =
        shown_with s.kinds s.homes count (s.kinds q) (s.homes q) (column s.contents (data_cell q)) (column s.contents (meta_cell q)) (column s.contents (names_cell q)) _ _ _ (object_at s.files q) (object_at s.files q) (all q)
        (column_off s.contents set (after_births (s.contents set) (born kind.Dir g 0 span)) (data_cell q) (births_off (born kind.Dir g 0 span) (s.contents set) (data_cell q) (born_of_others kind.Dir g 0 span (data_cell q) d)))
        (column_off s.contents set (after_births (s.contents set) (born kind.Dir g 0 span)) (meta_cell q) (births_off (born kind.Dir g 0 span) (s.contents set) (meta_cell q) (born_of_others kind.Dir g 0 span (meta_cell q) d)))
        (column_off s.contents set (after_births (s.contents set) (born kind.Dir g 0 span)) (names_cell q) (births_off (born kind.Dir g 0 span) (s.contents set) (names_cell q) (born_of_others kind.Dir g 0 span (names_cell q) d)))
        refl

    by_case : (q ≡ g) ⊎ (q ≢ g) → ShownOf (copying s set g span) count q
    by_case (inl e) = subst (λ (x : Gfid). ShownOf (copying s set g span) count x) (sym e) here
    by_case (inr d) = others d

-- ---- a directory is marked removed

mark_items : (c : Option Content) → items_of (edited_if_present MarkRemoved c) ≡ items_of c
mark_items None = refl
mark_items (Some (Bytes bytes)) = refl
mark_items (Some (Meta mode attrs span)) = refl
mark_items (Some (Names removed items)) = refl

mark_removed : (c : Option Content) → holds_names c ≡ true → is_removed (edited_if_present MarkRemoved c) ≡ true
mark_removed None e = absurd cc
mark_removed (Some (Bytes bytes)) e = absurd cc
mark_removed (Some (Meta mode attrs span)) e = absurd cc
mark_removed (Some (Names removed items)) e = refl

abbrev pub removing : Volumes → Gfid → Files → Volumes
removing s g files = put_in s 0 (names_cell g) (edited_if_present MarkRemoved (s.contents 0 (names_cell g))) files

-- an empty directory is marked removed on the first set
pub mark_step : (s : Volumes) (count : ℕ) (g : Gfid) (files : Files) → AllShown s count → (dir : IsDirectory s count g) → holds_names (s.contents 0 (names_cell g)) ≡ true → names_in count (column s.contents (names_cell g)) ≡ []
    → object_at files g ≡ Some (Directory (names_in count (column s.contents (names_cell g))) dir.meta.mode dir.meta.attrs true) → ((q : Gfid) → q ≢ g → object_at files q ≡ object_at s.files q) → AllShown (removing s g files) count
mark_step s count g files all dir held none object others =
    all_with s count 0 (names_cell g) (edited_if_present MarkRemoved (s.contents 0 (names_cell g))) files all others here
  where
    a : ShownOf s count g
    a = all g

    lists : items_in (column (put_at s.contents 0 (names_cell g) (edited_if_present MarkRemoved (s.contents 0 (names_cell g)))) (names_cell g)) ≡ items_in (column s.contents (names_cell g))
    lists = fun_ext (λ o. by_number o (number_is o 0))
      where
        by_number : (o : ℕ) → (o ≡ 0) ⊎ (o ≢ 0) → items_of (put_at s.contents 0 (names_cell g) (edited_if_present MarkRemoved (s.contents 0 (names_cell g))) o (names_cell g)) ≡ items_of (s.contents o (names_cell g))
        by_number o (inl e) =
            subst (λ (x : ℕ). items_of (put_at s.contents 0 (names_cell g) (edited_if_present MarkRemoved (s.contents 0 (names_cell g))) x (names_cell g)) ≡ items_of (s.contents x (names_cell g))) (sym e)
            (ap items_of (put_here s.contents 0 (names_cell g) (edited_if_present MarkRemoved (s.contents 0 (names_cell g)))) ∙ mark_items (s.contents 0 (names_cell g)))
        by_number o (inr d) = ap items_of (put_else s.contents 0 (names_cell g) (edited_if_present MarkRemoved (s.contents 0 (names_cell g))) o d)

    marked_first : is_removed (put_at s.contents 0 (names_cell g) (edited_if_present MarkRemoved (s.contents 0 (names_cell g))) 0 (names_cell g)) ≡ true
    marked_first = ap is_removed (put_here s.contents 0 (names_cell g) (edited_if_present MarkRemoved (s.contents 0 (names_cell g)))) ∙ mark_removed (s.contents 0 (names_cell g)) held

    no_names : AreNamesSound s.kinds s.homes count true (items_in (column s.contents (names_cell g)))
    no_names = record {
      rising = a.names.rising;
      alone = a.names.alone;
      empty = λ n set e. over_free s.kinds s.homes count (is_removed (s.contents 0 (names_cell g))) (items_in (column s.contents (names_cell g))) n set a.names (ap (λ (l : List Item). item_named l n) none);
      made = a.names.made;
      within = a.names.within;
    }

    positive : (o : ℕ) → 0 < o → o ≢ 0
    positive o h e = omega (arith, e, h)

    changed : ShownAt s.kinds s.homes count (s.kinds g) (s.homes g) (column s.contents (data_cell g)) (column s.contents (meta_cell g)) (column (put_at s.contents 0 (names_cell g) (edited_if_present MarkRemoved (s.contents 0 (names_cell g)))) (names_cell g)) (object_at files g)
    changed = record {
      object_is =
          object
          ∙ sym (
          ap (λ (k : Option Kind). shown_as count k (s.contents (s.homes g) (data_cell g)) (s.contents (s.homes g) (meta_cell g)) (s.contents 0 (meta_cell g)) (column (put_at s.contents 0 (names_cell g) (edited_if_present MarkRemoved (s.contents 0 (names_cell g)))) (names_cell g))) dir.kind_is
          ∙ ap (λ (c : Option Content). directory_of c (is_removed (put_at s.contents 0 (names_cell g) (edited_if_present MarkRemoved (s.contents 0 (names_cell g))) 0 (names_cell g))) (names_in count (column (put_at s.contents 0 (names_cell g) (edited_if_present MarkRemoved (s.contents 0 (names_cell g)))) (names_cell g)))) dir.meta.content_is
          ∙ ap (λ (b : Bool). Some (Directory (names_in count (column (put_at s.contents 0 (names_cell g) (edited_if_present MarkRemoved (s.contents 0 (names_cell g)))) (names_cell g))) dir.meta.mode dir.meta.attrs b)) marked_first
          ∙ ap (λ (l : Family). Some (Directory (over l (range_with_len 0 count) []) dir.meta.mode dir.meta.attrs true)) lists);
      directory = a.directory;
      datas = a.datas;
      metas = a.metas;
      few = a.few;
      names = subst (λ (b : Bool). AreNamesSound s.kinds s.homes count b (items_in (column (put_at s.contents 0 (names_cell g) (edited_if_present MarkRemoved (s.contents 0 (names_cell g)))) (names_cell g)))) (sym marked_first)
          (subst (λ (l : Family). AreNamesSound s.kinds s.homes count true l) (sym lists) no_names);
      marked = λ o high. ap is_removed (put_else s.contents 0 (names_cell g) (edited_if_present MarkRemoved (s.contents 0 (names_cell g))) o (positive o high)) ∙ a.marked o high;
      orphan = λ e o. ap (λ (l : Family). l o) lists ∙ a.orphan e o;
    }

    here : ShownOf (removing s g files) count g
    here = shown_with s.kinds s.homes count (s.kinds g) (s.homes g) (column s.contents (data_cell g)) (column s.contents (meta_cell g)) (column (put_at s.contents 0 (names_cell g) (edited_if_present MarkRemoved (s.contents 0 (names_cell g)))) (names_cell g)) _ _ _ (object_at files g) (object_at files g) changed
        (put_off s.contents 0 (names_cell g) (data_cell g) (edited_if_present MarkRemoved (s.contents 0 (names_cell g))) (data_names g g)) (put_off s.contents 0 (names_cell g) (meta_cell g) (edited_if_present MarkRemoved (s.contents 0 (names_cell g))) (meta_names g g)) refl refl
