-- Of two ops that fit and are apart, each fits after the other.
use Rattle.std.proofs.Common.{◌≡◌, ◌≢◌, ◌⊎◌, inl, inr, ◌∙◌, ℕ, ◌+◌, ◌<◌, ◌≤◌, Bool, true, false, not, ◌||◌, List, [], ◌∷◌, Option, Some, None, if◌then◌else◌, length, nat_lt, refl, ap, sym, subst, arith}
use Rattle.std.proofs.lemmas.Bool.{or_parts}
use Rattle.std.specs.List.{range_with_len}
use Rattle.std.specs.Prelude.{is_none}
use Rattle.dht_fops.specs.Answers.{added, change_of, Accepts, IsAccepted}
use Rattle.dht_fops.specs.Standing.{Volumes}
use Rattle.fop_types.specs.Bounds.{Each}
use Rattle.fop_types.specs.Cells.{data_cell, meta_cell, names_cell}
use Rattle.fop_types.specs.FileBytes.{file_limit, written, resized}
use Rattle.fop_types.specs.Files.{Files, object_at, with_object, names_at, names_of, object_with_mode, object_with_attrs, object_attrs, new_file, new_directory, with_removed}
use Rattle.fop_types.specs.Flat.{Outcome, name_limit, flat, entry_error, checked, done, where_free, item_of, with_new, without_name, with_name, is_empty, rmdir_kind, unlink_kind, where_file, where_replaceable, where_attr, write_of, write_outcome, truncate_outcome, chmod_outcome, setattr_outcome, delattr_outcome, unlink_outcome, rmdir_outcome, rename_outcome}
use Rattle.fop_types.specs.Flat.Outcome.{Answers, Changes}
use Rattle.fop_types.specs.Names.{item_named, with_attr, without_attr, attr_named, is_link, is_directory, has_real_name, renamed, is_same_name}
use Rattle.fop_types.specs.StoreOps.{Contents, born, needs, both_names, is_unfit, is_removed, is_taken, is_that_directory, is_directory_item, item_in, items_of, attrs_of, fits, contents_after}
use Rattle.fop_types.specs.declared.answers.Answer.TheVariants as answer
use Rattle.fop_types.specs.declared.answers.AppError.{AppError}
use Rattle.fop_types.specs.declared.answers.AppError.TheVariants.{Enametoolong, Enotempty, Efbig}
use Rattle.fop_types.specs.declared.cells.Aspect.{Aspect}
use Rattle.fop_types.specs.declared.cells.Cell.{Cell}
use Rattle.fop_types.specs.declared.cells.Gfid.{Gfid}
use Rattle.fop_types.specs.declared.cells.Kind.{Kind}
use Rattle.fop_types.specs.declared.cells.Kind.TheVariants as kind
use Rattle.fop_types.specs.declared.contents.Attr.{Attr}
use Rattle.fop_types.specs.declared.contents.Content.{Content}
use Rattle.fop_types.specs.declared.contents.Item.{Item}
use Rattle.fop_types.specs.declared.contents.Span.{Span}
use Rattle.fop_types.specs.declared.flat.FlatAnswer.{FlatAnswer}
use Rattle.fop_types.specs.declared.flat.FlatAnswer.TheVariants as flat_answer
use Rattle.fop_types.specs.declared.flat.FlatObject.{FlatObject}
use Rattle.fop_types.specs.declared.flat.FlatObject.TheVariants.{File, Directory}
use Rattle.fop_types.specs.declared.flat.FlatOp.{FlatOp}
use Rattle.fop_types.specs.declared.flat.FlatOp.TheVariants as flat_op
use Rattle.fop_types.specs.declared.history.Entry.{Entry}
use Rattle.fop_types.specs.declared.store_ops.StoreOp.{StoreOp}
use Rattle.fop_types.specs.declared.store_ops.StoreOp.TheVariants as op
use Rattle.mount_files.proofs.Accepting.{IsOpen, IsAdded, added_is, IsDropped, dropped_is, IsRemovedDir, removed_is, IsMoved, moved_is, chmod_is, setattr_is, delattr_is, write_is, truncate_is}
use Rattle.mount_files.proofs.Cells.{set_here, set_off, number_is}
use Rattle.mount_files.proofs.Families.{over_here, over_free, real_none, taken_item}
use Rattle.mount_files.proofs.Keeping.{op_leaves, op_absent, fits_again, both_first, both_second, IsPresent, needed_present, Puts, op_untaken, op_mark}
use Rattle.mount_files.proofs.Local.{Column, column, items_in, names_in, shown_as, ShownOf, AllShown, Grows, to_local}
use Rattle.mount_files.proofs.Making.{made_grows, kind_off}
use Rattle.mount_files.proofs.Merges.{over, over_rises, over_named, real_at, last_none}
use Rattle.mount_files.proofs.Naming.{kind_file, kind_directory, IsDirectory, directory_made, directory_named, open_directory}
use Rattle.mount_files.proofs.Objects.{IsFile, file_made}
use Rattle.mount_files.proofs.Ops.{after_shown, applied_is, fit_parts, IsThat, that_directory, not_not, shown_item, one_op}
use Rattle.mount_files.proofs.Rises.{same_items, none_rises}
use Rattle.afr_machine.specs.Replicas.{with_at}
use Rattle.mount_laws.specs.Steps.{with_kind, with_home, applied}
use Rattle.mount_files.specs.Pairs.{OpOn, Touches, Removes, BirthsOf, Bears, Needs, AreApart, Fits, after, TwoOps, FitInOrder, AreAllApart, AllOps}
use Rattle.mount_files.specs.Showing.{ShownIsFlat, FitsNow, IsOn, IsNew, IsThere, IsNowhereElse, IsPlaced, IsUnshown, Stands, after_op}

-- ---- what the first op leaves

-- a name that an op puts is one that it touches
pub puts_touched : (s : Volumes) (set : ℕ) (o : StoreOp) (e : Option Entry) (dir : Gfid) (name : List ℕ) → Stands s set o e → Puts o dir name → Touches o e dir name
puts_touched s set (op.Write g offset bytes) e dir name st p = absurd p
puts_touched s set (op.Truncate g size) e dir name st p = absurd p
puts_touched s set (op.SetMode g mode) e dir name st p = absurd p
puts_touched s set (op.SetAttr g attr) e dir name st p = absurd p
puts_touched s set (op.DelAttr g n) e dir name st p = absurd p
puts_touched s set (op.AddName parent item mode span) None dir name st p = let l = p.2 in let k : is_link item.kind ≡ true = ap is_link st.0 in absurd cc
puts_touched s set (op.AddName parent item mode span) (Some entry) dir name st p = (p.0, p.1)
puts_touched s set (op.DropName parent n) e dir name st p = absurd p
puts_touched s set (op.DropDir parent n g) e dir name st p = absurd p
puts_touched s set (op.Move parent n target m) None dir name st p = absurd st
puts_touched s set (op.Move parent n target m) (Some entry) dir name st p = inr p
puts_touched s set (op.MakeCopy g span) e dir name st p = absurd p

-- the tables of objects grow
op_grows : (s : Volumes) (set : ℕ) (o : StoreOp) (e : Option Entry) → Stands s set o e → Grows s.kinds (after_op s set o e).kinds s.homes (after_op s set o e).homes
op_grows s set o None st = record { kind = λ g k h. h; home = λ g k h. refl }
op_grows s set (op.Write g offset bytes) (Some entry) st = record { kind = λ q k h. h; home = λ q k h. refl }
op_grows s set (op.Truncate g size) (Some entry) st = record { kind = λ q k h. h; home = λ q k h. refl }
op_grows s set (op.SetMode g mode) (Some entry) st = record { kind = λ q k h. h; home = λ q k h. refl }
op_grows s set (op.SetAttr g attr) (Some entry) st = record { kind = λ q k h. h; home = λ q k h. refl }
op_grows s set (op.DelAttr g n) (Some entry) st = record { kind = λ q k h. h; home = λ q k h. refl }
op_grows s set (op.AddName parent item mode span) (Some entry) st = made_grows s.kinds s.homes item.gfid item.kind set st.1.unmade
op_grows s set (op.DropName parent n) (Some entry) st = record { kind = λ q k h. h; home = λ q k h. refl }
op_grows s set (op.DropDir parent n g) (Some entry) st = record { kind = λ q k h. h; home = λ q k h. refl }
op_grows s set (op.Move parent n target m) (Some entry) st = record { kind = λ q k h. h; home = λ q k h. refl }
op_grows s set (op.MakeCopy g span) (Some entry) st = record { kind = λ q k h. h; home = λ q k h. refl }

-- an object to which the op gives no birth is not made by it
op_unmade : (s : Volumes) (set : ℕ) (o : StoreOp) (e : Option Entry) (g : Gfid) → Stands s set o e → (Bears o g → ⊥) → s.kinds g ≡ None → (after_op s set o e).kinds g ≡ None
op_unmade s set o None g st off h = h
op_unmade s set (op.Write q offset bytes) (Some entry) g st off h = h
op_unmade s set (op.Truncate q size) (Some entry) g st off h = h
op_unmade s set (op.SetMode q mode) (Some entry) g st off h = h
op_unmade s set (op.SetAttr q attr) (Some entry) g st off h = h
op_unmade s set (op.DelAttr q n) (Some entry) g st off h = h
op_unmade s set (op.AddName parent item mode span) (Some entry) g st off h = kind_off s.kinds item.gfid g item.kind (λ e. off (bears item.kind st.0 (sym e))) ∙ h
  where
    bears : (k : Kind) → Accepts s.files (added parent item mode k) → item.gfid ≡ g → BirthsOf (born k item.gfid mode span) g
    bears kind.File a e = inl e
    bears kind.Dir a e = inl e
    bears kind.Link a e = absurd a
op_unmade s set (op.DropName parent n) (Some entry) g st off h = h
op_unmade s set (op.DropDir parent n q) (Some entry) g st off h = h
op_unmade s set (op.Move parent n target m) (Some entry) g st off h = h
op_unmade s set (op.MakeCopy q span) (Some entry) g st off h = h

-- ---- answers of the flat file system

entry_free : (object : Option FlatObject) (name : List ℕ) → IsOpen object name → entry_error object name ≡ None
entry_free object name o = ap (λ (x : Option FlatObject). entry_error x name) o.object_is ∙ ap (λ (b : Bool). if b then Some Enametoolong else None) o.short

changes_to : (files : Files) (f : FlatOp) (a : FlatAnswer) (new : Files) → flat files f ≡ Changes a new → IsAccepted files f
changes_to files f a new e = record { answer = a; after = new; accepted = e }

pub open_again : (s : Volumes) (count : ℕ) (d : Gfid) (name : List ℕ) → IsDirectory s count d → is_removed (s.contents 0 (names_cell d)) ≡ false → nat_lt name_limit (length name) ≡ false → IsOpen (object_at s.files d) name
open_again s count d name dir kept short = record {
  names = names_in count (column s.contents (names_cell d));
  mode = dir.meta.mode;
  attrs = dir.meta.attrs;
  object_is = dir.object_is ∙ ap (λ (b : Bool). Some (Directory (names_in count (column s.contents (names_cell d))) dir.meta.mode dir.meta.attrs b)) kept;
  short = short;
}

file_again : (k : Kind) (o : Outcome) → is_directory k ≡ false → unlink_kind k o ≡ o
file_again kind.File o e = refl
file_again kind.Dir o e = absurd cc
file_again kind.Link o e = refl

moved_again : (k : Kind) (o : Outcome) → is_directory k ≡ false → where_file k o ≡ o
moved_again kind.File o e = refl
moved_again kind.Dir o e = absurd cc
moved_again kind.Link o e = refl

replaced_again : (x : Option Item) (o : Outcome) → is_directory_item x ≡ false → where_replaceable x o ≡ o
replaced_again None o e = refl
replaced_again (Some item) o e = file_again item.kind o e

-- an operation that adds a name
add_again : (files : Files) (parent : Gfid) (name : List ℕ) (new : Files) → IsOpen (object_at files parent) name → item_named (names_at files parent) name ≡ None
    → checked (entry_error (object_at files parent) name) (where_free (item_named (names_at files parent) name) (done new)) ≡ Changes (flat_answer.Call answer.Done) new
add_again files parent name new o free =
    ap (λ (e : Option AppError). checked e (where_free (item_named (names_at files parent) name) (done new))) (entry_free (object_at files parent) name o)
    ∙ ap (λ (i : Option Item). where_free i (done new)) free

drop_again : (files : Files) (parent : Gfid) (name : List ℕ) (item : Item) → IsOpen (object_at files parent) name → item_named (names_at files parent) name ≡ Some item → is_directory item.kind ≡ false → IsAccepted files (flat_op.Unlink parent name)
drop_again files parent name item o named file =
    changes_to files (flat_op.Unlink parent name) (flat_answer.Call answer.Done) (without_name files parent name)
    (ap (λ (e : Option AppError). checked e (unlink_outcome files parent name (item_named (names_at files parent) name))) (entry_free (object_at files parent) name o)
    ∙ ap (λ (i : Option Item). unlink_outcome files parent name i) named ∙ file_again item.kind (done (without_name files parent name)) file)

remove_again : (files : Files) (parent : Gfid) (name : List ℕ) (item : Item) → IsOpen (object_at files parent) name → item_named (names_at files parent) name ≡ Some item → item.kind ≡ kind.Dir → names_at files item.gfid ≡ [] → IsAccepted files (flat_op.Rmdir parent name)
remove_again files parent name item o named dir none =
    changes_to files (flat_op.Rmdir parent name) (flat_answer.Call answer.Done) (with_removed (without_name files parent name) item.gfid)
    (ap (λ (e : Option AppError). checked e (rmdir_outcome files parent name (item_named (names_at files parent) name))) (entry_free (object_at files parent) name o)
    ∙ ap (λ (i : Option Item). rmdir_outcome files parent name i) named
    ∙ ap (λ (k : Kind). rmdir_kind k (if is_empty (names_at files item.gfid) then done (with_removed (without_name files parent name) item.gfid) else Answers (flat_answer.Call (answer.App Enotempty)))) dir
    ∙ ap (λ (l : List Item). if is_empty l then done (with_removed (without_name files parent name) item.gfid) else Answers (flat_answer.Call (answer.App Enotempty))) none)

pub move_again : (files : Files) (parent : Gfid) (name : List ℕ) (target : Gfid) (new_name : List ℕ) (item : Item) → IsOpen (object_at files parent) name → item_named (names_at files parent) name ≡ Some item → is_directory item.kind ≡ false
    → IsOpen (object_at files target) new_name → is_directory_item (item_named (names_at files target) new_name) ≡ false → is_same_name parent name target new_name ≡ false → IsAccepted files (flat_op.Rename parent name target new_name)
move_again files parent name target new_name item o named file to free other =
    changes_to files (flat_op.Rename parent name target new_name) (flat_answer.Call answer.Done) (with_name (without_name files parent name) target (renamed item new_name))
    (ap (λ (e : Option AppError). checked e (rename_outcome files parent name target new_name (item_named (names_at files parent) name))) (entry_free (object_at files parent) name o)
    ∙ ap (λ (i : Option Item). rename_outcome files parent name target new_name i) named
    ∙ moved_again item.kind _ file
    ∙ ap (λ (e : Option AppError). checked e (where_replaceable (item_named (names_at files target) new_name) (if is_same_name parent name target new_name then Answers (flat_answer.Call answer.Done) else done (with_name (without_name files parent name) target (renamed item new_name))))) (entry_free (object_at files target) new_name to)
    ∙ replaced_again (item_named (names_at files target) new_name) _ free
    ∙ ap (λ (b : Bool). if b then Answers (flat_answer.Call answer.Done) else done (with_name (without_name files parent name) target (renamed item new_name))) other)

record IsWritten (b : Bool) (l : List ℕ) (files : Files) : Type 0 where
  said : FlatAnswer
  written : (if b then Answers (flat_answer.Call (answer.App Efbig)) else write_of l files) ≡ Changes said files

-- a write and a truncate of a file that is there
write_again : (files files2 : Files) (g : Gfid) (offset : ℕ) (new : List ℕ) (bytes : List ℕ) (mode : ℕ) (attrs : List Attr) → IsAccepted files (flat_op.Write g offset new) → object_at files2 g ≡ Some (File bytes mode attrs) → IsAccepted files2 (flat_op.Write g offset new)
write_again files files2 g offset new bytes mode attrs a e = by_object (object_at files g) a.accepted
  where
    written_now : (b c : Bool) (l : List ℕ) (x y : Files) (p : FlatAnswer) (z : Files) → (if b then Answers (flat_answer.Call (answer.App Efbig)) else write_of l x) ≡ Changes p z → IsWritten b l y
    written_now true c l x y p z h = absurd cc
    written_now false c [] x y p z h = absurd cc
    written_now false c (i ∷ is) x y p z h = record { said = flat_answer.Call (answer.Count (length (i ∷ is))); written = refl }

    by_object : (x : Option FlatObject) → write_outcome files g offset new x ≡ Changes a.answer a.after → IsAccepted files2 (flat_op.Write g offset new)
    by_object None h = absurd cc
    by_object (Some (Directory names m t removed)) h = absurd cc
    by_object (Some (File b m t)) h =
        let w = written_now (nat_lt file_limit (offset + length new)) true new (with_object files g (File (written b offset new) m t)) (with_object files2 g (File (written bytes offset new) mode attrs)) a.answer a.after h in
        changes_to files2 (flat_op.Write g offset new) w.said (with_object files2 g (File (written bytes offset new) mode attrs)) (ap (λ (x : Option FlatObject). write_outcome files2 g offset new x) e ∙ w.written)

truncate_again : (files files2 : Files) (g : Gfid) (size : ℕ) (bytes : List ℕ) (mode : ℕ) (attrs : List Attr) → nat_lt file_limit size ≡ false → object_at files2 g ≡ Some (File bytes mode attrs) → IsAccepted files2 (flat_op.Truncate g size)
truncate_again files files2 g size bytes mode attrs low e =
    changes_to files2 (flat_op.Truncate g size) (flat_answer.Call answer.Done) (with_object files2 g (File (resized bytes size) mode attrs))
    (ap (λ (x : Option FlatObject). truncate_outcome files2 g size x) e ∙ ap (λ (b : Bool). if b then Answers (flat_answer.Call (answer.App Efbig)) else done (with_object files2 g (File (resized bytes size) mode attrs))) low)

-- ---- what the first op left, for the second

pub record Left (s s2 : Volumes) (count set : ℕ) (o : StoreOp) (e : Option Entry) : Type 0 where
  pub all : AllShown s count
  pub all2 : AllShown s2 count
  pub kept : (cell : Cell) → Needs (needs o) cell → s2.contents set cell ≡ s.contents set cell
  pub untaken : (x : ℕ) (dir : Gfid) (name : List ℕ) → Touches o e dir name → is_taken (item_in (s.contents x) dir name) ≡ false → is_taken (item_in (s2.contents x) dir name) ≡ false
  pub mark : (dir : Gfid) (name : List ℕ) → Touches o e dir name → is_removed (s2.contents 0 (names_cell dir)) ≡ is_removed (s.contents 0 (names_cell dir))
  pub emptied : (x : ℕ) (dir : Gfid) (name : List ℕ) → Removes o dir → is_taken (item_in (s.contents x) dir name) ≡ false → is_taken (item_in (s2.contents x) dir name) ≡ false
  pub grow : Grows s.kinds s2.kinds s.homes s2.homes
  pub unmade : (g : Gfid) → Bears o g → s.kinds g ≡ None → s2.kinds g ≡ None
  pub absent : (g : Gfid) (a : Aspect) → Bears o g → s.contents set (record { gfid = g; aspect = a }) ≡ None → s2.contents set (record { gfid = g; aspect = a }) ≡ None

same_kind : (x : Option Kind) (a b : Kind) → x ≡ Some a → x ≡ Some b → a ≡ b
same_kind x a b e f = let g : ◌≡◌ {A = Option Kind} (Some a) (Some b) = sym e ∙ f in cc

on_again : (s s2 : Volumes) (set : ℕ) (g : Gfid) (k : Kind) → Grows s.kinds s2.kinds s.homes s2.homes → s.kinds g ≡ Some k → IsOn s set g → IsOn s2 set g
on_again s s2 set g k grow h on = record {
  file = λ e. grow.home g k h ∙ on.file (h ∙ ap (λ (x : Kind). Some x) (same_kind (s2.kinds g) k kind.File (grow.kind g k h) e));
  directory = λ e. on.directory (h ∙ ap (λ (x : Kind). Some x) (same_kind (s2.kinds g) k kind.Dir (grow.kind g k h) e));
}

-- an object that is shown is a file or a directory
object_kind : (count : ℕ) (k : Option Kind) (body meta first : Option Content) (entry : Column) (o : FlatObject) → shown_as count k body meta first entry ≡ Some o → (k ≡ Some kind.File) ⊎ (k ≡ Some kind.Dir)
object_kind count None body meta first entry o e = absurd cc
object_kind count (Some kind.File) body meta first entry o e = inl refl
object_kind count (Some kind.Dir) body meta first entry o e = inr refl
object_kind count (Some kind.Link) body meta first entry o e = absurd cc

-- an object that was shown on its set, shown again there
record IsAgain (s s2 : Volumes) (set : ℕ) (g : Gfid) : Type 0 where
  object : FlatObject
  object_is : object_at s2.files g ≡ Some object
  attrs_are : object_attrs object ≡ attrs_of (s2.contents set (meta_cell g))
  on : IsOn s2 set g

object_again : (s s2 : Volumes) (count set : ℕ) (g : Gfid) (o : FlatObject) → AllShown s count → AllShown s2 count → Grows s.kinds s2.kinds s.homes s2.homes → IsOn s set g → object_at s.files g ≡ Some o → IsAgain s s2 set g
object_again s s2 count set g o all all2 grow on e =
    by_kind (object_kind count (s.kinds g) (s.contents (s.homes g) (data_cell g)) (s.contents (s.homes g) (meta_cell g)) (s.contents 0 (meta_cell g)) (column s.contents (names_cell g)) o (sym (all g).object_is ∙ e))
  where
    by_kind : (s.kinds g ≡ Some kind.File) ⊎ (s.kinds g ≡ Some kind.Dir) → IsAgain s s2 set g
    by_kind (inl k) =
        let on2 = on_again s s2 set g kind.File grow k on in
        let k2 = grow.kind g kind.File k in
        let f = file_made s2 count set g (all2 g) k2 (on2.file k2) in
        record { object = File f.body.bytes f.meta.mode f.meta.attrs; object_is = f.object_is; attrs_are = sym (ap attrs_of f.meta.content_is); on = on2 }
    by_kind (inr k) =
        let on2 = on_again s s2 set g kind.Dir grow k on in
        let k2 = grow.kind g kind.Dir k in
        let d = directory_made s2 count g (all2 g) k2 in
        record {
          object = Directory (names_in count (column s2.contents (names_cell g))) d.meta.mode d.meta.attrs (is_removed (s2.contents 0 (names_cell g)));
          object_is = d.object_is;
          attrs_are = sym (ap (λ (x : ℕ). attrs_of (s2.contents x (meta_cell g))) (on2.directory k2) ∙ ap attrs_of d.meta.content_is);
          on = on2;
        }

-- ---- names

-- a name that no set has is not shown
pub free_again : (s : Volumes) (count : ℕ) (d : Gfid) (name : List ℕ) → AllShown s count → IsDirectory s count d → ((x : ℕ) → is_taken (item_in (s.contents x) d name) ≡ false) → item_named (names_at s.files d) name ≡ None
free_again s count d name all dir free =
    ap (λ (l : List Item). item_named l name) (directory_named s count d dir)
    ∙ over_named (items_in (column s.contents (names_cell d))) (range_with_len 0 count) [] name (all d).names.rising
    ∙ last_none (real_at (items_in (column s.contents (names_cell d))) name) (range_with_len 0 count) None (λ x. real_none (item_in (s.contents x) d name) (free x))

empty_again : (s : Volumes) (count : ℕ) (d : Gfid) → AllShown s count → IsDirectory s count d → ((x : ℕ) (name : List ℕ) → is_taken (item_in (s.contents x) d name) ≡ false) → names_at s.files d ≡ []
empty_again s count d all dir free =
    directory_named s count d dir
    ∙ same_items (names_in count (column s.contents (names_cell d))) [] (over_rises (items_in (column s.contents (names_cell d))) (range_with_len 0 count) [] (all d).names.rising none_rises) none_rises
    (λ name. ap (λ (l : List Item). item_named l name) (sym (directory_named s count d dir)) ∙ free_again s count d name all dir (λ x. free x name))

-- a directory in which the second op touches a name is open still
record IsOpenAgain (s s2 : Volumes) (count : ℕ) (d : Gfid) (name : List ℕ) : Type 0 where
  before : IsDirectory s count d
  now : IsDirectory s2 count d
  open_now : IsOpen (object_at s2.files d) name

dir_again : (s s2 : Volumes) (count set : ℕ) (o : StoreOp) (e : Option Entry) (d : Gfid) (name : List ℕ) → Left s s2 count set o e → Touches o e d name → IsOpen (object_at s.files d) name → IsOpenAgain s s2 count d name
dir_again s s2 count set o e d name l touched w =
    let was = open_directory s count d w.names w.mode w.attrs (l.all d) w.object_is in
    let now = directory_made s2 count d (l.all2 d) (l.grow.kind d kind.Dir was.directory.kind_is) in
    record { before = was.directory; now = now; open_now = open_again s2 count d name now (l.mark d name touched ∙ was.kept) w.short }

-- the item of a name on the set is shown still
pub item_again : (s2 : Volumes) (count set : ℕ) (d : Gfid) (name : List ℕ) (item : Item) → AllShown s2 count → IsDirectory s2 count d → item_in (s2.contents set) d name ≡ Some item → is_link item.kind ≡ false → item_named (names_at s2.files d) name ≡ Some item
item_again s2 count set d name item all2 dir e link =
    ap (λ (l : List Item). item_named l name) (directory_named s2 count d dir)
    ∙ over_here s2.kinds s2.homes count (is_removed (s2.contents 0 (names_cell d))) (items_in (column s2.contents (names_cell d))) name set item (all2 d).names e link

-- and so is the item that is dropped or moved
source_again : (s s2 : Volumes) (count set : ℕ) (d : Gfid) (name : List ℕ) (w : Item) → AllShown s count → AllShown s2 count → IsDirectory s count d → IsDirectory s2 count d → s2.contents set (names_cell d) ≡ s.contents set (names_cell d)
    → IsThere s set d name → item_named (names_at s.files d) name ≡ Some w → item_named (names_at s2.files d) name ≡ Some w
source_again s s2 count set d name w all all2 dir dir2 same there named =
    let t = taken_item (item_in (s.contents set) d name) there in
    let is = shown_item s count set d name t.item w all dir t.item_is t.no_link named in
    item_again s2 count set d name t.item all2 dir2 (ap (λ (c : Option Content). item_named (items_of c) name) same ∙ t.item_is) t.no_link ∙ ap (λ (i : Item). Some i) is

unlisted : (s : Volumes) (count : ℕ) (d : Gfid) (name : List ℕ) (x : ℕ) → AllShown s count → IsDirectory s count d → item_named (names_at s.files d) name ≡ None → is_taken (item_in (s.contents x) d name) ≡ false
unlisted s count d name x all dir e =
    over_free s.kinds s.homes count (is_removed (s.contents 0 (names_cell d))) (items_in (column s.contents (names_cell d))) name x (all d).names (ap (λ (l : List Item). item_named l name) (sym (directory_named s count d dir)) ∙ e)

-- ---- op by op

not_dir_by : (x : Option Item) (item : Item) → is_directory_item x ≡ false → x ≡ Some item → is_directory item.kind ≡ false
not_dir_by None item e f = absurd cc
not_dir_by (Some i) item e f = ap is_directory_item (sym f) ∙ e

add_stands : (s s2 : Volumes) (count set : ℕ) (parent : Gfid) (item : Item) (mode : ℕ) (span : Option Span) (entry : Entry) (k : Kind) → item.kind ≡ k → Left s s2 count set (op.AddName parent item mode span) (Some entry)
    → Accepts s.files (added parent item mode k) → Accepts s2.files (added parent item mode k)
add_stands s s2 count set parent item mode span entry kind.File e l a =
    let w = added_is s.files parent item.name (with_new s.files parent (item_of item.name item.gfid kind.File) (new_file mode)) a.answer a.after a.accepted in
    let d = dir_again s s2 count set (op.AddName parent item mode span) (Some entry) parent item.name l (refl, refl) w.open_at in
    changes_to s2.files (flat_op.Create parent item.name mode item.gfid) (flat_answer.Call answer.Done) (with_new s2.files parent (item_of item.name item.gfid kind.File) (new_file mode))
    (add_again s2.files parent item.name (with_new s2.files parent (item_of item.name item.gfid kind.File) (new_file mode)) d.open_now
    (free_again s2 count parent item.name l.all2 d.now (λ x. l.untaken x parent item.name (refl, refl) (unlisted s count parent item.name x l.all d.before w.free))))
add_stands s s2 count set parent item mode span entry kind.Dir e l a =
    let w = added_is s.files parent item.name (with_new s.files parent (item_of item.name item.gfid kind.Dir) (new_directory mode)) a.answer a.after a.accepted in
    let d = dir_again s s2 count set (op.AddName parent item mode span) (Some entry) parent item.name l (refl, refl) w.open_at in
    changes_to s2.files (flat_op.Mkdir parent item.name mode item.gfid) (flat_answer.Call answer.Done) (with_new s2.files parent (item_of item.name item.gfid kind.Dir) (new_directory mode))
    (add_again s2.files parent item.name (with_new s2.files parent (item_of item.name item.gfid kind.Dir) (new_directory mode)) d.open_now
    (free_again s2 count parent item.name l.all2 d.now (λ x. l.untaken x parent item.name (refl, refl) (unlisted s count parent item.name x l.all d.before w.free))))
add_stands s s2 count set parent item mode span entry kind.Link e l a = absurd a

new_bears : (s : Volumes) (parent : Gfid) (item : Item) (mode : ℕ) (span : Option Span) (k : Kind) → Accepts s.files (added parent item mode k) → BirthsOf (born k item.gfid mode span) item.gfid
new_bears s parent item mode span kind.File a = inl refl
new_bears s parent item mode span kind.Dir a = inl refl
new_bears s parent item mode span kind.Link a = absurd a

remove_stands : (s s2 : Volumes) (count set : ℕ) (parent : Gfid) (name : List ℕ) (g : Gfid) (entry : Entry) → Left s s2 count set (op.DropDir parent name g) (Some entry) → fits (s.contents set) (op.DropDir parent name g) ≡ true
    → IsAccepted s.files (flat_op.Rmdir parent name) → IsAccepted s2.files (flat_op.Rmdir parent name)
remove_stands s s2 count set parent name g entry l fit a =
    let p = fit_parts (s.contents set) (op.DropDir parent name g) fit in
    let that = that_directory (item_in (s.contents set) parent name) g (not_not (is_that_directory (item_in (s.contents set) parent name) g) (or_parts (not (is_that_directory (item_in (s.contents set) parent name) g)) (has_real_name (items_of (s.contents set (names_cell g)))) p.1).0) in
    let no_link = ap is_link that.is_dir in
    let w = removed_is s.files parent name a.answer a.after a.accepted in
    let d = dir_again s s2 count set (op.DropDir parent name g) (Some entry) parent name l (refl, refl) w.open_at in
    let is = shown_item s count set parent name that.item w.item l.all d.before that.item_is no_link w.named in
    let gfid_is : w.item.gfid ≡ g = ap (λ (i : Item). i.gfid) (sym is) ∙ that.gfid_is in
    let made : s.kinds g ≡ Some kind.Dir = ap s.kinds (sym that.gfid_is) ∙ ((l.all parent).names.made name set that.item that.item_is no_link).made ∙ ap (λ (k : Kind). Some k) that.is_dir in
    let inner = directory_made s count g (l.all g) made in
    let inner2 = directory_made s2 count g (l.all2 g) (l.grow.kind g kind.Dir made) in
    let none : names_at s.files g ≡ [] = ap (λ (x : Gfid). names_at s.files x) (sym gfid_is) ∙ w.empty in
    let none2 : names_at s2.files g ≡ [] = empty_again s2 count g l.all2 inner2 (λ x n. l.emptied x g n refl (unlisted s count g n x l.all inner (ap (λ (names : List Item). item_named names n) none))) in
    remove_again s2.files parent name w.item d.open_now
    (source_again s s2 count set parent name w.item l.all l.all2 d.before d.now (l.kept (names_cell parent) (both_first parent g)) (ap is_taken that.item_is ∙ ap not no_link) w.named) w.is_dir
    (ap (λ (x : Gfid). names_at s2.files x) gfid_is ∙ none2)

-- a name on the set is no directory's, or on none
replace_again : (s s2 : Volumes) (count set : ℕ) (d : Gfid) (name : List ℕ) → AllShown s2 count → IsDirectory s2 count d → IsNowhereElse s2 set d name → is_directory_item (item_in (s2.contents set) d name) ≡ false → is_directory_item (item_named (names_at s2.files d) name) ≡ false
replace_again s s2 count set d name all2 dir nowhere file = by_case (is_taken (item_in (s2.contents set) d name)) refl
  where
    by_case : (b : Bool) → is_taken (item_in (s2.contents set) d name) ≡ b → is_directory_item (item_named (names_at s2.files d) name) ≡ false
    by_case true e =
        let t = taken_item (item_in (s2.contents set) d name) e in
        ap is_directory_item (item_again s2 count set d name t.item all2 dir t.item_is t.no_link) ∙ not_dir_by (item_in (s2.contents set) d name) t.item file t.item_is
    by_case false e = ap is_directory_item (free_again s2 count d name all2 dir (λ x. by_set x (number_is x set)))
      where
        by_set : (x : ℕ) → (x ≡ set) ⊎ (x ≢ set) → is_taken (item_in (s2.contents x) d name) ≡ false
        by_set x (inl f) = ap (λ (y : ℕ). is_taken (item_in (s2.contents y) d name)) f ∙ e
        by_set x (inr f) = nowhere x f

move_stands : (s s2 : Volumes) (count set : ℕ) (parent : Gfid) (name : List ℕ) (target : Gfid) (new_name : List ℕ) (entry : Entry) → Left s s2 count set (op.Move parent name target new_name) (Some entry) → fits (s.contents set) (op.Move parent name target new_name) ≡ true
    → IsAccepted s.files (flat_op.Rename parent name target new_name) → IsThere s set parent name → IsNowhereElse s2 set target new_name → IsAccepted s2.files (flat_op.Rename parent name target new_name)
move_stands s s2 count set parent name target new_name entry l fit a there else2 =
    let p = fit_parts (s.contents set) (op.Move parent name target new_name) fit in
    let parts = or_parts (is_none (item_in (s.contents set) parent name) || is_removed (s.contents set (names_cell target))) (is_directory_item (item_in (s.contents set) target new_name) || is_same_name parent name target new_name) p.1 in
    let free = or_parts (is_directory_item (item_in (s.contents set) target new_name)) (is_same_name parent name target new_name) parts.1 in
    let w = moved_is s.files parent name target new_name a.answer a.after a.accepted in
    let d = dir_again s s2 count set (op.Move parent name target new_name) (Some entry) parent name l (inl (refl, refl)) w.open_at in
    let t = dir_again s s2 count set (op.Move parent name target new_name) (Some entry) target new_name l (inr (refl, refl)) w.target_open in
    move_again s2.files parent name target new_name w.item d.open_now
    (source_again s s2 count set parent name w.item l.all l.all2 d.before d.now (l.kept (names_cell parent) (both_first parent target)) there w.named) w.no_directory t.open_now
    (replace_again s s2 count set target new_name l.all2 t.now else2 (ap (λ (c : Option Content). is_directory_item (item_named (items_of c) new_name)) (l.kept (names_cell target) (both_second parent target)) ∙ free.0)) w.other

attr_there : (x : Option Attr) → is_none x ≡ false → (o : Outcome) → where_attr x o ≡ o
attr_there None e o = absurd cc
attr_there (Some attr) e o = refl

stands_again : (s s2 : Volumes) (count set : ℕ) (o : StoreOp) (e : Option Entry) → Left s s2 count set o e → fits (s.contents set) o ≡ true → Stands s set o e → Stands s2 set o e
stands_again s s2 count set (op.Write g offset bytes) None l fit st = absurd st
stands_again s s2 count set (op.Write g offset bytes) (Some entry) l fit st =
    let w = write_is s.files g offset bytes st.0.answer st.0.after st.0.accepted in
    let k = kind_file count (s.kinds g) (s.contents (s.homes g) (data_cell g)) (s.contents (s.homes g) (meta_cell g)) (s.contents 0 (meta_cell g)) (column s.contents (names_cell g)) w.bytes w.mode w.attrs (sym (l.all g).object_is ∙ w.object_is) in
    let f = file_made s2 count (s2.homes g) g (l.all2 g) (l.grow.kind g kind.File k) refl in
    (write_again s.files s2.files g offset bytes f.body.bytes f.meta.mode f.meta.attrs st.0 f.object_is, on_again s s2 set g kind.File l.grow k st.1)
stands_again s s2 count set (op.Truncate g size) None l fit st = absurd st
stands_again s s2 count set (op.Truncate g size) (Some entry) l fit st =
    let w = truncate_is s.files g size st.0.answer st.0.after st.0.accepted in
    let k = kind_file count (s.kinds g) (s.contents (s.homes g) (data_cell g)) (s.contents (s.homes g) (meta_cell g)) (s.contents 0 (meta_cell g)) (column s.contents (names_cell g)) w.bytes w.mode w.attrs (sym (l.all g).object_is ∙ w.object_is) in
    let f = file_made s2 count (s2.homes g) g (l.all2 g) (l.grow.kind g kind.File k) refl in
    (truncate_again s.files s2.files g size f.body.bytes f.meta.mode f.meta.attrs (fit_parts (s.contents set) (op.Truncate g size) fit).1 f.object_is, on_again s s2 set g kind.File l.grow k st.1)
stands_again s s2 count set (op.SetMode g mode) None l fit st = absurd st
stands_again s s2 count set (op.SetMode g mode) (Some entry) l fit st =
    let w = chmod_is s.files g mode st.0.answer st.0.after st.0.accepted in
    let again = object_again s s2 count set g w.object l.all l.all2 l.grow st.1 w.object_is in
    (changes_to s2.files (flat_op.Chmod g mode) (flat_answer.Call answer.Done) (with_object s2.files g (object_with_mode again.object mode)) (ap (λ (x : Option FlatObject). chmod_outcome s2.files g mode x) again.object_is), again.on)
stands_again s s2 count set (op.SetAttr g attr) None l fit st = absurd st
stands_again s s2 count set (op.SetAttr g attr) (Some entry) l fit st =
    let w = setattr_is s.files g attr st.0.answer st.0.after st.0.accepted in
    let again = object_again s s2 count set g w.object l.all l.all2 l.grow st.1 w.object_is in
    (changes_to s2.files (flat_op.SetAttr g attr) (flat_answer.Call answer.Done) (with_object s2.files g (object_with_attrs again.object (with_attr (object_attrs again.object) attr))) (ap (λ (x : Option FlatObject). setattr_outcome s2.files g attr x) again.object_is), again.on)
stands_again s s2 count set (op.DelAttr g name) None l fit st = absurd st
stands_again s s2 count set (op.DelAttr g name) (Some entry) l fit st =
    let w = delattr_is s.files g name st.0.answer st.0.after st.0.accepted in
    let again = object_again s s2 count set g w.object l.all l.all2 l.grow st.1 w.object_is in
    let some : is_none (attr_named (object_attrs again.object) name) ≡ false = ap (λ (x : List Attr). is_none (attr_named x name)) (again.attrs_are ∙ ap attrs_of (l.kept (meta_cell g) (inl refl))) ∙ (fit_parts (s.contents set) (op.DelAttr g name) fit).1 in (
      changes_to s2.files (flat_op.DelAttr g name) (flat_answer.Call answer.Done) (with_object s2.files g (object_with_attrs again.object (without_attr (object_attrs again.object) name)))
          (ap (λ (x : Option FlatObject). delattr_outcome s2.files g name x) again.object_is
          ∙ attr_there (attr_named (object_attrs again.object) name) some (done (with_object s2.files g (object_with_attrs again.object (without_attr (object_attrs again.object) name))))),
      again.on,
    )
stands_again s s2 count set (op.AddName parent item mode span) None l fit st = (st.0, l.grow.kind parent kind.Dir st.1)
stands_again s s2 count set (op.AddName parent item mode span) (Some entry) l fit st =
    let bears = new_bears s parent item mode span item.kind st.0 in (
      add_stands s s2 count set parent item mode span entry item.kind refl l st.0,
      record {
        target = st.1.target;
        unmade = l.unmade item.gfid bears st.1.unmade;
        absent = λ a. l.absent item.gfid a bears (st.1.absent a);
        directory = st.1.directory;
      },
    )
stands_again s s2 count set (op.DropName parent name) None l fit st = ap (λ (c : Option Content). is_taken (item_named (items_of c) name)) (l.kept (names_cell parent) (inl refl)) ∙ st
stands_again s s2 count set (op.DropName parent name) (Some entry) l fit st =
    let w = dropped_is s.files parent name st.0.answer st.0.after st.0.accepted in
    let d = dir_again s s2 count set (op.DropName parent name) (Some entry) parent name l (refl, refl) w.open_at in
    let same = l.kept (names_cell parent) (inl refl) in
    (drop_again s2.files parent name w.item d.open_now (source_again s s2 count set parent name w.item l.all l.all2 d.before d.now same st.1 w.named) w.no_directory, ap (λ (c : Option Content). is_taken (item_named (items_of c) name)) same ∙ st.1)
stands_again s s2 count set (op.DropDir parent name g) None l fit st = absurd st
stands_again s s2 count set (op.DropDir parent name g) (Some entry) l fit st = (remove_stands s s2 count set parent name g entry l fit st.0, tt)
stands_again s s2 count set (op.Move parent name target new_name) None l fit st = absurd st
stands_again s s2 count set (op.Move parent name target new_name) (Some entry) l fit st =
    let else2 : IsNowhereElse s2 set target new_name = λ x d. l.untaken x target new_name (inr (refl, refl)) (st.1.1 x d) in
    (move_stands s s2 count set parent name target new_name entry l fit st.0 st.1.0 else2, (ap (λ (c : Option Content). is_taken (item_named (items_of c) name)) (l.kept (names_cell parent) (both_first parent target)) ∙ st.1.0, else2))
stands_again s s2 count set (op.MakeCopy g span) None l fit st = tt
stands_again s s2 count set (op.MakeCopy g span) (Some entry) l fit st = absurd st.1

-- ---- two ops

module _ (s : Volumes) (count : ℕ) (a b : OpOn) (flat : ShownIsFlat s count) (fa : Fits s count a) (fb : Fits s count b) (apart : AreApart a b) where
  changed : (after s a).contents a.set ≡ contents_after (s.contents a.set) a.op
  changed = set_here s.contents a.set (applied (s.contents a.set) a.op) ∙ applied_is (s.contents a.set) a.op fa.fits_set

  elsewhere : (x : ℕ) → x ≢ a.set → (after s a).contents x ≡ s.contents x
  elsewhere x d = set_off s.contents a.set x (applied (s.contents a.set) a.op) d

  kept : (cell : Cell) → Needs (needs b.op) cell → (after s a).contents b.set cell ≡ s.contents b.set cell
  kept cell n = by_set (number_is b.set a.set)
    where
      by_set : (b.set ≡ a.set) ⊎ (b.set ≢ a.set) → (after s a).contents b.set cell ≡ s.contents b.set cell
      by_set (inl e) =
          let p = needed_present (needs b.op) (s.contents b.set) cell (fit_parts (s.contents b.set) b.op fb.fits_set).0 n in
          ap (λ (x : ℕ). (after s a).contents x cell) e ∙ ap (λ (c : Contents). c cell) changed
          ∙ op_leaves (s.contents a.set) a.op cell p.there (λ m. apart.cells (sym e) cell m n) (ap (λ (x : ℕ). s.contents x cell) (sym e) ∙ p.content_is) ∙ sym p.content_is
      by_set (inr d) = ap (λ (c : Contents). c cell) (elsewhere b.set d)

  free_still : (x : ℕ) (dir : Gfid) (name : List ℕ) → (Puts a.op dir name → ⊥) → is_taken (item_in (s.contents x) dir name) ≡ false → is_taken (item_in ((after s a).contents x) dir name) ≡ false
  free_still x dir name off e = by_set (number_is x a.set)
    where
      by_set : (x ≡ a.set) ⊎ (x ≢ a.set) → is_taken (item_in ((after s a).contents x) dir name) ≡ false
      by_set (inl f) =
          ap (λ (y : ℕ). is_taken (item_in ((after s a).contents y) dir name)) f ∙ ap (λ (c : Contents). is_taken (item_in c dir name)) changed
          ∙ op_untaken (s.contents a.set) a.op dir name off (flat.rising dir a.set) (ap (λ (y : ℕ). is_taken (item_in (s.contents y) dir name)) (sym f) ∙ e)
      by_set (inr d) = ap (λ (c : Contents). is_taken (item_in c dir name)) (elsewhere x d) ∙ e

  mark_still : (x : ℕ) (dir : Gfid) → (Removes a.op dir → ⊥) → is_removed ((after s a).contents x (names_cell dir)) ≡ is_removed (s.contents x (names_cell dir))
  mark_still x dir off = by_set (number_is x a.set)
    where
      by_set : (x ≡ a.set) ⊎ (x ≢ a.set) → is_removed ((after s a).contents x (names_cell dir)) ≡ is_removed (s.contents x (names_cell dir))
      by_set (inl f) =
          ap (λ (y : ℕ). is_removed ((after s a).contents y (names_cell dir))) f ∙ ap (λ (c : Contents). is_removed (c (names_cell dir))) changed
          ∙ op_mark (s.contents a.set) a.op dir off ∙ ap (λ (y : ℕ). is_removed (s.contents y (names_cell dir))) (sym f)
      by_set (inr d) = ap (λ (c : Contents). is_removed (c (names_cell dir))) (elsewhere x d)

  absent_still : (g : Gfid) (i : Aspect) → Bears b.op g → s.contents b.set (record { gfid = g; aspect = i }) ≡ None → (after s a).contents b.set (record { gfid = g; aspect = i }) ≡ None
  absent_still g i n e = by_set (number_is b.set a.set)
    where
      by_set : (b.set ≡ a.set) ⊎ (b.set ≢ a.set) → (after s a).contents b.set (record { gfid = g; aspect = i }) ≡ None
      by_set (inl f) =
          ap (λ (x : ℕ). (after s a).contents x (record { gfid = g; aspect = i })) f ∙ ap (λ (c : Contents). c (record { gfid = g; aspect = i })) changed
          ∙ op_absent (s.contents a.set) a.op (record { gfid = g; aspect = i }) (λ m. apart.born g m n) (ap (λ (x : ℕ). s.contents x (record { gfid = g; aspect = i })) (sym f) ∙ e)
      by_set (inr d) = ap (λ (c : Contents). c (record { gfid = g; aspect = i })) (elsewhere b.set d) ∙ e

  left : Left s (after s a) count b.set b.op b.effect
  left = record {
    all = to_local s count flat;
    all2 = after_shown s count a.set a.op a.effect (to_local s count flat) fa;
    kept = kept;
    untaken = λ x dir name t e. free_still x dir name (λ p. apart.names dir name (puts_touched s a.set a.op a.effect dir name fa.stands p) t) e;
    mark = λ dir name t. mark_still 0 dir (λ r. apart.inside dir name r t);
    emptied = λ x dir name r e. free_still x dir name (λ p. apart.outside dir name r (puts_touched s a.set a.op a.effect dir name fa.stands p)) e;
    grow = op_grows s a.set a.op a.effect fa.stands;
    unmade = λ g n e. op_unmade s a.set a.op a.effect g fa.stands (λ m. apart.born g m n) e;
    absent = absent_still;
  }

  fits_still : Fits (after s a) count b
  fits_still = record {
    on_set = fb.on_set;
    fits_set = fits_again b.op (s.contents b.set) ((after s a).contents b.set) kept fb.fits_set;
    stands = stands_again s (after s a) count b.set b.op b.effect left fb.fits_set fb.stands;
  }

pub two_ops : TwoOps
two_ops s count a b flat fa fb apart = fits_still s count a b flat fa fb apart

-- ---- any order

later_fit : (s : Volumes) (count : ℕ) (a : OpOn) (os : List OpOn) → ShownIsFlat s count → Fits s count a → Each (λ (o : OpOn). AreApart a o) os → Each (λ (o : OpOn). Fits s count o) os → Each (λ (o : OpOn). Fits (after s a) count o) os
later_fit s count a [] flat fa apart fit = tt
later_fit s count a (o ∷ os) flat fa apart fit = (two_ops s count a o flat fa fit.0 apart.0, later_fit s count a os flat fa apart.1 fit.1)

pub all_ops : AllOps
all_ops s count [] flat fit apart = flat
all_ops s count (o ∷ os) flat fit apart =
    (flat, fit.0, all_ops (after s o) count os (one_op s count o.set o.op o.effect flat fit.0) (later_fit s count o os flat fit.0 apart.0 fit.1) apart.1)
