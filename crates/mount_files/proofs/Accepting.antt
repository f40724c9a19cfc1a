-- What the flat file system has where it accepts an operation, and the files after it.
use Rattle.std.proofs.Common.{◌≡◌, ◌≢◌, ◌∙◌, ℕ, ◌+◌, Bool, true, false, List, [], ◌∷◌, Option, Some, None, cond, if◌then◌else◌, length, nat_lt, refl, ap, sym, subst}
use Rattle.std.proofs.lemmas.Cmp.{tied_itself}
use Rattle.std.specs.FinMap.{get-insert}
use Rattle.std.specs.Ordering.{is_eq}
use Rattle.fop_types.proofs.MapLemmas.{gfid_cmp_total, gfid_exact, apart}
use Rattle.fop_types.specs.FileBytes.{file_limit, written, resized}
use Rattle.fop_types.specs.Files.{Files, object_at, with_object, names_at, object_with_names, object_removed, object_with_mode, object_with_attrs, object_attrs, with_names, with_names_in, with_removed, with_removed_in}
use Rattle.fop_types.specs.Flat.{Outcome, name_limit, entry_error, checked, done, where_free, without_name, with_name, is_empty, rmdir_kind, rmdir_outcome, unlink_kind, unlink_outcome, where_file, where_replaceable, rename_outcome, chmod_outcome, truncate_outcome, setattr_outcome, where_attr, delattr_outcome, write_of, write_outcome}
use Rattle.fop_types.specs.Flat.Outcome.{Answers, Changes}
use Rattle.fop_types.specs.Names.{item_named, with_attr, without_attr, attr_named, renamed, is_same_name, is_directory}
use Rattle.fop_types.specs.Orders.{gfid_cmp}
use Rattle.fop_types.specs.StoreOps.{is_directory_item}
use Rattle.fop_types.specs.declared.answers.Answer.TheVariants as answer
use Rattle.fop_types.specs.declared.answers.AppError.{AppError}
use Rattle.fop_types.specs.declared.answers.AppError.TheVariants.{Enoent, Enametoolong, Enotempty, Efbig}
use Rattle.fop_types.specs.declared.cells.Gfid.{Gfid}
use Rattle.fop_types.specs.declared.cells.Kind.{Kind}
use Rattle.fop_types.specs.declared.cells.Kind.TheVariants as kind
use Rattle.fop_types.specs.declared.contents.Attr.{Attr}
use Rattle.fop_types.specs.declared.contents.Item.{Item}
use Rattle.fop_types.specs.declared.flat.FlatAnswer.{FlatAnswer}
use Rattle.fop_types.specs.declared.flat.FlatAnswer.TheVariants.{Call}
use Rattle.fop_types.specs.declared.flat.FlatObject.{FlatObject}
use Rattle.fop_types.specs.declared.flat.FlatObject.TheVariants.{File, Directory}

-- ---- files with another object

pub object_here : (files : Files) (g : Gfid) (o : FlatObject) → object_at (with_object files g o) g ≡ Some o
object_here files g o = get-insert gfid_cmp_total files g o g ∙ ap (λ (b : Bool). cond b (Some o) (object_at files g)) (ap is_eq (tied_itself gfid_cmp_total g))

pub object_off : (files : Files) (g q : Gfid) (o : FlatObject) → q ≢ g → object_at (with_object files g o) q ≡ object_at files q
object_off files g q o d = get-insert gfid_cmp_total files g o q ∙ ap (λ (b : Bool). cond b (Some o) (object_at files q)) (apart gfid_cmp gfid_exact q g d)

pub names_here : (files : Files) (g : Gfid) (o : FlatObject) (names : List Item) → object_at files g ≡ Some o → object_at (with_names files g names) g ≡ Some (object_with_names o names)
names_here files g o names e = ap (λ (x : Option FlatObject). object_at (with_names_in files g x names) g) e ∙ object_here files g (object_with_names o names)

pub names_off : (files : Files) (g q : Gfid) (names : List Item) → q ≢ g → object_at (with_names files g names) q ≡ object_at files q
names_off files g q names d = by_object (object_at files g)
  where
    by_object : (x : Option FlatObject) → object_at (with_names_in files g x names) q ≡ object_at files q
    by_object None = refl
    by_object (Some o) = object_off files g q (object_with_names o names) d

pub removed_here : (files : Files) (g : Gfid) (o : FlatObject) → object_at files g ≡ Some o → object_at (with_removed files g) g ≡ Some (object_removed o)
removed_here files g o e = ap (λ (x : Option FlatObject). object_at (with_removed_in files g x) g) e ∙ object_here files g (object_removed o)

pub removed_off : (files : Files) (g q : Gfid) → q ≢ g → object_at (with_removed files g) q ≡ object_at files q
removed_off files g q d = by_object (object_at files g)
  where
    by_object : (x : Option FlatObject) → object_at (with_removed_in files g x) q ≡ object_at files q
    by_object None = refl
    by_object (Some o) = object_off files g q (object_removed o) d

-- ---- what operations share

pub record Both (A B : Type 0) : Type 0 where
  pub first : A
  pub second : B

checked_is : (error : Option AppError) (o : Outcome) (a : FlatAnswer) (after : Files) → checked error o ≡ Changes a after → Both (error ≡ None) (o ≡ Changes a after)
checked_is None o a after e = record { first = refl; second = e }
checked_is (Some error) o a after e = absurd cc

pub record IsOpen (object : Option FlatObject) (name : List ℕ) : Type 0 where
  pub names : List Item
  pub mode : ℕ
  pub attrs : List Attr
  pub object_is : object ≡ Some (Directory names mode attrs false)
  pub short : nat_lt name_limit (length name) ≡ false

open_is : (object : Option FlatObject) (name : List ℕ) → entry_error object name ≡ None → IsOpen object name
open_is None name e = absurd cc
open_is (Some (File bytes mode attrs)) name e = absurd cc
open_is (Some (Directory names mode attrs true)) name e = by_length (nat_lt name_limit (length name)) e
  where
    by_length : (b : Bool) → (if b then Some Enametoolong else Some Enoent) ≡ None → IsOpen (Some (Directory names mode attrs true)) name
    by_length true f = absurd cc
    by_length false f = absurd cc
open_is (Some (Directory names mode attrs false)) name e = by_length (nat_lt name_limit (length name)) refl e
  where
    by_length : (b : Bool) → nat_lt name_limit (length name) ≡ b → (if b then Some Enametoolong else None) ≡ None → IsOpen (Some (Directory names mode attrs false)) name
    by_length true f g = absurd cc
    by_length false f g = record { names = names; mode = mode; attrs = attrs; object_is = refl; short = f }

free_is : (item : Option Item) (o : Outcome) (a : FlatAnswer) (after : Files) → where_free item o ≡ Changes a after → Both (item ≡ None) (o ≡ Changes a after)
free_is None o a after e = record { first = refl; second = e }
free_is (Some item) o a after e = absurd cc

done_is : (a : FlatAnswer) (new after : Files) → done new ≡ Changes a after → new ≡ after
done_is a new after e = cc

-- ---- operations on names

-- a name is added
pub record IsAdded (files : Files) (parent : Gfid) (name : List ℕ) (new after : Files) : Type 0 where
  pub open_at : IsOpen (object_at files parent) name
  pub free : item_named (names_at files parent) name ≡ None
  pub after_is : new ≡ after

pub added_is : (files : Files) (parent : Gfid) (name : List ℕ) (new : Files) (a : FlatAnswer) (after : Files)
    → checked (entry_error (object_at files parent) name) (where_free (item_named (names_at files parent) name) (done new)) ≡ Changes a after → IsAdded files parent name new after
added_is files parent name new a after e =
    let c = checked_is (entry_error (object_at files parent) name) _ a after e in
    let f = free_is (item_named (names_at files parent) name) (done new) a after c.second in
    record { open_at = open_is (object_at files parent) name c.first; free = f.first; after_is = done_is a new after f.second }

-- a file's name is dropped
pub record IsDropped (files : Files) (parent : Gfid) (name : List ℕ) (after : Files) : Type 0 where
  pub open_at : IsOpen (object_at files parent) name
  pub item : Item
  pub named : item_named (names_at files parent) name ≡ Some item
  pub no_directory : is_directory item.kind ≡ false
  pub after_is : without_name files parent name ≡ after

unlinked_is : (k : Kind) (o : Outcome) (a : FlatAnswer) (after : Files) → unlink_kind k o ≡ Changes a after → Both (is_directory k ≡ false) (o ≡ Changes a after)
unlinked_is kind.File o a after e = record { first = refl; second = e }
unlinked_is kind.Dir o a after e = absurd cc
unlinked_is kind.Link o a after e = record { first = refl; second = e }

pub dropped_is : (files : Files) (parent : Gfid) (name : List ℕ) (a : FlatAnswer) (after : Files)
    → checked (entry_error (object_at files parent) name) (unlink_outcome files parent name (item_named (names_at files parent) name)) ≡ Changes a after → IsDropped files parent name after
dropped_is files parent name a after e =
    let c = checked_is (entry_error (object_at files parent) name) _ a after e in
    by_item (open_is (object_at files parent) name c.first) (item_named (names_at files parent) name) refl c.second
  where
    by_item : IsOpen (object_at files parent) name → (x : Option Item) → item_named (names_at files parent) name ≡ x → unlink_outcome files parent name x ≡ Changes a after → IsDropped files parent name after
    by_item o None f g = absurd cc
    by_item o (Some item) f g =
        let u = unlinked_is item.kind (done (without_name files parent name)) a after g in
        record { open_at = o; item = item; named = f; no_directory = u.first; after_is = done_is a (without_name files parent name) after u.second }

-- a directory is removed
pub record IsRemovedDir (files : Files) (parent : Gfid) (name : List ℕ) (after : Files) : Type 0 where
  pub open_at : IsOpen (object_at files parent) name
  pub item : Item
  pub named : item_named (names_at files parent) name ≡ Some item
  pub is_dir : item.kind ≡ kind.Dir
  pub empty : names_at files item.gfid ≡ []
  pub after_is : with_removed (without_name files parent name) item.gfid ≡ after

rmdir_is : (k : Kind) (o : Outcome) (a : FlatAnswer) (after : Files) → rmdir_kind k o ≡ Changes a after → Both (k ≡ kind.Dir) (o ≡ Changes a after)
rmdir_is kind.File o a after e = absurd cc
rmdir_is kind.Dir o a after e = record { first = refl; second = e }
rmdir_is kind.Link o a after e = absurd cc

emptied_is : (names : List Item) (new : Files) (a : FlatAnswer) (after : Files) → (if is_empty names then done new else Answers (Call (answer.App Enotempty))) ≡ Changes a after → Both (names ≡ []) (new ≡ after)
emptied_is [] new a after e = record { first = refl; second = done_is a new after e }
emptied_is (i ∷ is) new a after e = absurd cc

pub removed_is : (files : Files) (parent : Gfid) (name : List ℕ) (a : FlatAnswer) (after : Files)
    → checked (entry_error (object_at files parent) name) (rmdir_outcome files parent name (item_named (names_at files parent) name)) ≡ Changes a after → IsRemovedDir files parent name after
removed_is files parent name a after e =
    let c = checked_is (entry_error (object_at files parent) name) _ a after e in
    by_item (open_is (object_at files parent) name c.first) (item_named (names_at files parent) name) refl c.second
  where
    by_item : IsOpen (object_at files parent) name → (x : Option Item) → item_named (names_at files parent) name ≡ x → rmdir_outcome files parent name x ≡ Changes a after → IsRemovedDir files parent name after
    by_item o None f g = absurd cc
    by_item o (Some item) f g =
        let k = rmdir_is item.kind _ a after g in
        let m = emptied_is (names_at files item.gfid) (with_removed (without_name files parent name) item.gfid) a after k.second in
        record { open_at = o; item = item; named = f; is_dir = k.first; empty = m.first; after_is = m.second }

-- a file's name is moved
pub record IsMoved (files : Files) (parent : Gfid) (name : List ℕ) (target : Gfid) (new_name : List ℕ) (after : Files) : Type 0 where
  pub open_at : IsOpen (object_at files parent) name
  pub item : Item
  pub named : item_named (names_at files parent) name ≡ Some item
  pub no_directory : is_directory item.kind ≡ false
  pub target_open : IsOpen (object_at files target) new_name
  pub replaceable : is_directory_item (item_named (names_at files target) new_name) ≡ false
  pub other : is_same_name parent name target new_name ≡ false
  pub after_is : with_name (without_name files parent name) target (renamed item new_name) ≡ after

where_file_is : (k : Kind) (o : Outcome) (a : FlatAnswer) (after : Files) → where_file k o ≡ Changes a after → Both (is_directory k ≡ false) (o ≡ Changes a after)
where_file_is kind.File o a after e = record { first = refl; second = e }
where_file_is kind.Dir o a after e = absurd cc
where_file_is kind.Link o a after e = record { first = refl; second = e }

replaceable_is : (x : Option Item) (o : Outcome) (a : FlatAnswer) (after : Files) → where_replaceable x o ≡ Changes a after → Both (is_directory_item x ≡ false) (o ≡ Changes a after)
replaceable_is None o a after e = record { first = refl; second = e }
replaceable_is (Some item) o a after e = unlinked_is item.kind o a after e

other_is : (b : Bool) (new : Files) (a : FlatAnswer) (after : Files) → (if b then Answers (Call answer.Done) else done new) ≡ Changes a after → Both (b ≡ false) (new ≡ after)
other_is true new a after e = absurd cc
other_is false new a after e = record { first = refl; second = done_is a new after e }

pub moved_is : (files : Files) (parent : Gfid) (name : List ℕ) (target : Gfid) (new_name : List ℕ) (a : FlatAnswer) (after : Files)
    → checked (entry_error (object_at files parent) name) (rename_outcome files parent name target new_name (item_named (names_at files parent) name)) ≡ Changes a after → IsMoved files parent name target new_name after
moved_is files parent name target new_name a after e =
    let c = checked_is (entry_error (object_at files parent) name) _ a after e in
    by_item (open_is (object_at files parent) name c.first) (item_named (names_at files parent) name) refl c.second
  where
    by_item : IsOpen (object_at files parent) name → (x : Option Item) → item_named (names_at files parent) name ≡ x → rename_outcome files parent name target new_name x ≡ Changes a after → IsMoved files parent name target new_name after
    by_item o None f g = absurd cc
    by_item o (Some item) f g =
        let w = where_file_is item.kind _ a after g in
        let t = checked_is (entry_error (object_at files target) new_name) _ a after w.second in
        let r = replaceable_is (item_named (names_at files target) new_name) _ a after t.second in
        let d = other_is (is_same_name parent name target new_name) (with_name (without_name files parent name) target (renamed item new_name)) a after r.second in
        record { open_at = o; item = item; named = f; no_directory = w.first; target_open = open_is (object_at files target) new_name t.first; replaceable = r.first; other = d.first; after_is = d.second }

-- ---- operations on an object

-- an object is changed by a function
pub record IsChanged (files : Files) (g : Gfid) (change : FlatObject → FlatObject) (after : Files) : Type 0 where
  pub object : FlatObject
  pub object_is : object_at files g ≡ Some object
  pub after_is : with_object files g (change object) ≡ after

-- a file's bytes are changed by a function
pub record IsRewritten (files : Files) (g : Gfid) (change : List ℕ → List ℕ) (after : Files) : Type 0 where
  pub bytes : List ℕ
  pub mode : ℕ
  pub attrs : List Attr
  pub object_is : object_at files g ≡ Some (File bytes mode attrs)
  pub after_is : with_object files g (File (change bytes) mode attrs) ≡ after

pub chmod_is : (files : Files) (g : Gfid) (mode : ℕ) (a : FlatAnswer) (after : Files) → chmod_outcome files g mode (object_at files g) ≡ Changes a after → IsChanged files g (λ o. object_with_mode o mode) after
chmod_is files g mode a after e = by_object (object_at files g) refl e
  where
    by_object : (x : Option FlatObject) → object_at files g ≡ x → chmod_outcome files g mode x ≡ Changes a after → IsChanged files g (λ o. object_with_mode o mode) after
    by_object None f h = absurd cc
    by_object (Some o) f h = record { object = o; object_is = f; after_is = done_is a (with_object files g (object_with_mode o mode)) after h }

pub setattr_is : (files : Files) (g : Gfid) (attr : Attr) (a : FlatAnswer) (after : Files) → setattr_outcome files g attr (object_at files g) ≡ Changes a after → IsChanged files g (λ o. object_with_attrs o (with_attr (object_attrs o) attr)) after
setattr_is files g attr a after e = by_object (object_at files g) refl e
  where
    by_object : (x : Option FlatObject) → object_at files g ≡ x → setattr_outcome files g attr x ≡ Changes a after → IsChanged files g (λ o. object_with_attrs o (with_attr (object_attrs o) attr)) after
    by_object None f h = absurd cc
    by_object (Some o) f h = record { object = o; object_is = f; after_is = done_is a (with_object files g (object_with_attrs o (with_attr (object_attrs o) attr))) after h }

attr_is : (attr : Option Attr) (o : Outcome) (a : FlatAnswer) (after : Files) → where_attr attr o ≡ Changes a after → o ≡ Changes a after
attr_is None o a after e = absurd cc
attr_is (Some attr) o a after e = e

pub delattr_is : (files : Files) (g : Gfid) (name : List ℕ) (a : FlatAnswer) (after : Files) → delattr_outcome files g name (object_at files g) ≡ Changes a after → IsChanged files g (λ o. object_with_attrs o (without_attr (object_attrs o) name)) after
delattr_is files g name a after e = by_object (object_at files g) refl e
  where
    by_object : (x : Option FlatObject) → object_at files g ≡ x → delattr_outcome files g name x ≡ Changes a after → IsChanged files g (λ o. object_with_attrs o (without_attr (object_attrs o) name)) after
    by_object None f h = absurd cc
    by_object (Some o) f h = record { object = o; object_is = f; after_is = done_is a (with_object files g (object_with_attrs o (without_attr (object_attrs o) name))) after (attr_is (attr_named (object_attrs o) name) _ a after h) }

within_is : (b : Bool) (o : Outcome) (a : FlatAnswer) (after : Files) → (if b then Answers (Call (answer.App Efbig)) else o) ≡ Changes a after → o ≡ Changes a after
within_is true o a after e = absurd cc
within_is false o a after e = e

write_of_is : (new : List ℕ) (files : Files) (a : FlatAnswer) (after : Files) → write_of new files ≡ Changes a after → files ≡ after
write_of_is [] files a after e = absurd cc
write_of_is (b ∷ bs) files a after e = cc

pub write_is : (files : Files) (g : Gfid) (offset : ℕ) (new : List ℕ) (a : FlatAnswer) (after : Files) → write_outcome files g offset new (object_at files g) ≡ Changes a after → IsRewritten files g (λ bytes. written bytes offset new) after
write_is files g offset new a after e = by_object (object_at files g) refl e
  where
    by_object : (x : Option FlatObject) → object_at files g ≡ x → write_outcome files g offset new x ≡ Changes a after → IsRewritten files g (λ bytes. written bytes offset new) after
    by_object None f h = absurd cc
    by_object (Some (Directory names mode attrs removed)) f h = absurd cc
    by_object (Some (File bytes mode attrs)) f h =
        record { bytes = bytes; mode = mode; attrs = attrs; object_is = f; after_is = write_of_is new (with_object files g (File (written bytes offset new) mode attrs)) a after (within_is (nat_lt file_limit (offset + length new)) _ a after h) }

pub truncate_is : (files : Files) (g : Gfid) (size : ℕ) (a : FlatAnswer) (after : Files) → truncate_outcome files g size (object_at files g) ≡ Changes a after → IsRewritten files g (λ bytes. resized bytes size) after
truncate_is files g size a after e = by_object (object_at files g) refl e
  where
    by_object : (x : Option FlatObject) → object_at files g ≡ x → truncate_outcome files g size x ≡ Changes a after → IsRewritten files g (λ bytes. resized bytes size) after
    by_object None f h = absurd cc
    by_object (Some (Directory names mode attrs removed)) f h = absurd cc
    by_object (Some (File bytes mode attrs)) f h =
        record { bytes = bytes; mode = mode; attrs = attrs; object_is = f; after_is = done_is a (with_object files g (File (resized bytes size) mode attrs)) after (within_is (nat_lt file_limit size) _ a after h) }
