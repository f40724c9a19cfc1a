-- At the start the sets show the root alone.
use Rattle.std.proofs.Common.{◌≡◌, ◌≢◌, ◌⊎◌, inl, inr, ◌∙◌, ℕ, Bool, true, false, List, [], ◌∷◌, length, Option, Some, None, if◌then◌else◌, refl, ap, sym, subst}
use Rattle.std.specs.List.{range_with_len}
use Rattle.std.specs.Ordering.{is_eq}
use Rattle.afr_machine.specs.Copies.{root_alone, contents_of}
use Rattle.afr_machine.specs.Touching.{is_cell}
use Rattle.fop_types.specs.Cells.{root, data_cell, meta_cell, names_cell}
use Rattle.fop_types.specs.Files.{first_files, new_directory, object_at}
use Rattle.std.specs.FinMap.{empty, get-empty}
use Rattle.dht_fops.specs.Shown.{directory_of}
use Rattle.fop_types.specs.declared.flat.FlatObject.TheVariants.{Directory}
use Rattle.mount_files.proofs.Families.{untaken_by}
use Rattle.mount_laws.proofs.Releasing.{gfids_are}
use Rattle.fop_types.specs.Names.{item_named}
use Rattle.fop_types.specs.Orders.{gfid_cmp}
use Rattle.fop_types.specs.StoreOps.{items_of, is_removed, is_taken, holds_meta}
use Rattle.fop_types.specs.declared.cells.Cell.{Cell}
use Rattle.fop_types.specs.declared.cells.Gfid.{Gfid}
use Rattle.fop_types.specs.declared.cells.Kind.{Kind}
use Rattle.fop_types.specs.declared.cells.Kind.TheVariants as kind
use Rattle.fop_types.specs.declared.contents.Content.{Content}
use Rattle.fop_types.specs.declared.contents.Content.TheVariants.{Bytes, Meta, Names}
use Rattle.fop_types.specs.declared.contents.Item.{Item}
use Rattle.mount_files.proofs.Accepting.{object_here, object_off}
use Rattle.mount_files.proofs.Local.{Column, column, items_in, names_in, shown_as, ShownOf, from_local, gfid_is}
use Rattle.mount_files.proofs.Merges.{over}
use Rattle.mount_files.proofs.Rises.{IsRising, none_rises}
use Rattle.mount_laws.specs.Objects.{volumes}
use Rattle.mount_laws.specs.States.{start}
use Rattle.mount_shown.specs.Bridge.{StartIsEmpty}

-- nothing, or an empty directory's
pub data IsBare : Option Content → Type 0 where
  Absent : IsBare None
  Metadata : (mode : ℕ) → IsBare (Some (Meta mode [] None))
  Empty : IsBare (Some (Names false []))

pub bare : (cell : Cell) → IsBare (contents_of root_alone cell)
bare cell = by_meta (is_cell cell (meta_cell root)) refl
  where
    by_names : (x : Bool) → is_cell cell (meta_cell root) ≡ false → is_cell cell (names_cell root) ≡ x → IsBare (contents_of root_alone cell)
    by_names true e f = rw (e, f) Empty
    by_names false e f = rw (e, f) Absent

    by_meta : (x : Bool) → is_cell cell (meta_cell root) ≡ x → IsBare (contents_of root_alone cell)
    by_meta true e = rw e (Metadata 493)
    by_meta false e = by_names (is_cell cell (names_cell root)) e refl

pub no_items : (content : Option Content) → IsBare content → items_of content ≡ []
no_items _ Absent = refl
no_items _ (Metadata mode) = refl
no_items _ Empty = refl

no_mark : (content : Option Content) → IsBare content → is_removed content ≡ false
no_mark _ Absent = refl
no_mark _ (Metadata mode) = refl
no_mark _ Empty = refl

no_bytes : (content : Option Content) (bytes : List ℕ) → IsBare content → content ≡ Some (Bytes bytes) → ⊥
no_bytes _ bytes Absent e = absurd cc
no_bytes _ bytes (Metadata mode) e = absurd cc
no_bytes _ bytes Empty e = absurd cc

over_none : (sets : List ℕ) (entry : Column) → ((set : ℕ) → items_in entry set ≡ []) → over (items_in entry) sets [] ≡ []
over_none [] entry none = refl
over_none (set ∷ sets) entry none = rw (none set) (over_none sets entry none)

pub start_empty : StartIsEmpty
start_empty names some = from_local (volumes (start names)) (length names) each
  where
    each : (g : Gfid) → ShownOf (volumes (start names)) (length names) g
    each g = by_root (gfid_is g root)
      where
        entry : Column
        entry = column (start names).adopted (names_cell g)

        items : (set : ℕ) → items_in entry set ≡ []
        items set = no_items (contents_of root_alone (names_cell g)) (bare (names_cell g))

        made : (k : Option Kind) → (start names).kinds g ≡ k → (k ≡ Some kind.Dir → holds_meta (contents_of root_alone (meta_cell g)) ≡ true) → (k ≡ Some kind.File → ⊥)
            → object_at first_files g ≡ shown_as (length names) k (contents_of root_alone (data_cell g)) (contents_of root_alone (meta_cell g)) (contents_of root_alone (meta_cell g)) entry
            → ShownOf (volumes (start names)) (length names) g
        made k is dir file object = record {
          object_is = object ∙ ap (λ (x : Option Kind). shown_as (length names) x (contents_of root_alone (data_cell g)) (contents_of root_alone (meta_cell g)) (contents_of root_alone (meta_cell g)) entry) (sym is);
          directory = λ e. dir (sym is ∙ e);
          datas = λ e. absurd (file (sym is ∙ e));
          metas = λ e. absurd (file (sym is ∙ e));
          few = λ bytes e. absurd (no_bytes (contents_of root_alone (data_cell g)) bytes (bare (data_cell g)) e);
          names = record {
            rising = λ set. subst (λ (l : List Item). IsRising l) (sym (items set)) none_rises;
            alone = λ n a b t. let no : is_taken (item_named (items_in entry a) n) ≡ false = ap (λ (l : List Item). is_taken (item_named l n)) (items a) in absurd cc;
            empty = λ n set e. let no : is_removed (entry 0) ≡ false = no_mark (contents_of root_alone (names_cell g)) (bare (names_cell g)) in absurd cc;
            made = λ n set item e l. let no : item_named (items_in entry set) n ≡ None = ap (λ (l : List Item). item_named l n) (items set) in absurd cc;
            within = λ n set t. let no : is_taken (item_named (items_in entry set) n) ≡ false = ap (λ (l : List Item). is_taken (item_named l n)) (items set) in absurd cc;
          };
          marked = λ set high. no_mark (contents_of root_alone (names_cell g)) (bare (names_cell g));
          orphan = λ e set. items set;
        }

        root_is : object_at first_files root ≡ directory_of (contents_of root_alone (meta_cell root)) (is_removed (contents_of root_alone (names_cell root))) (names_in (length names) (column (start names).adopted (names_cell root)))
        root_is =
            object_here empty root (new_directory 493)
            ∙ ap (λ (l : List Item). Some (Directory l 493 [] false)) (sym (over_none (range_with_len 0 (length names)) (column (start names).adopted (names_cell root)) (λ set. refl)))

        by_root : (g ≡ root) ⊎ (g ≢ root) → ShownOf (volumes (start names)) (length names) g
        by_root (inl e) =
            made (Some kind.Dir) (ap (λ (x : Gfid). (start names).kinds x) e) (λ f. ap (λ (x : Gfid). holds_meta (contents_of root_alone (meta_cell x))) e) (λ f. absurd cc)
            (subst (λ (x : Gfid). object_at first_files x ≡ directory_of (contents_of root_alone (meta_cell x)) (is_removed (contents_of root_alone (names_cell x))) (names_in (length names) (column (start names).adopted (names_cell x)))) (sym e) root_is)
        by_root (inr d) =
            made None (ap (λ (b : Bool). if b then Some kind.Dir else None) (untaken_by (is_eq (gfid_cmp g root)) (λ e. d (gfids_are g root e)))) (λ f. absurd cc) (λ f. absurd cc)
            (object_off empty root g (new_directory 493) d ∙ get-empty gfid_cmp g)
