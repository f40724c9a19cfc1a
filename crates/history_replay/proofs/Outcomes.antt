-- What an operation of the flat file system changes: nothing where it is no change, or is refused.
use Rattle.std.proofs.Common.{◌≡◌, ◌∷◌, refl, sym, ap, ◌∙◌, ℕ, ◌+◌, ◌==◌, List, [], length, true≢false}
use Rattle.std.specs.Prelude.{Bool, true, false, not, ◌&&◌, Option, Some, None, nat_lt, if◌then◌else◌}
use Rattle.std.proofs.Math.Dec.{eqb-suc-zero}
use Rattle.fop_types.specs.FileBytes.{file_limit, resized, written}
use Rattle.fop_types.specs.Files.{Files, object_at, names_at, with_object, with_removed, object_with_mode, object_with_attrs, object_attrs}
use Rattle.fop_types.specs.Flat.{Outcome, flat, flat_answer, flat_after, answer_in, files_in, IsChange, is_change, refused, done, checked, entry_error, lookup_outcome, where_free, where_attr, where_file, where_replaceable, unlink_kind, unlink_outcome, rmdir_kind, rmdir_outcome, rename_outcome, open_outcome, stat_outcome, list_outcome, chmod_outcome, truncate_outcome, setattr_outcome, attr_outcome, getattr_outcome, delattr_outcome, read_outcome, write_of, write_outcome, is_same_name, renamed, with_name, without_name, is_empty}
use Rattle.fop_types.specs.Flat.Outcome.{Answers, Changes}
use Rattle.fop_types.specs.Names.{item_named, attr_named, with_attr, without_attr}
use Rattle.fop_types.specs.declared.answers.Answer.TheVariants as answers
use Rattle.fop_types.specs.declared.answers.AppError.{AppError}
use Rattle.fop_types.specs.declared.cells.Gfid.{Gfid}
use Rattle.fop_types.specs.declared.cells.Kind.{Kind}
use Rattle.fop_types.specs.declared.cells.Kind.TheVariants as kinds
use Rattle.fop_types.specs.declared.contents.Attr.{Attr}
use Rattle.fop_types.specs.declared.contents.Item.{Item}
use Rattle.fop_types.specs.declared.flat.FlatAnswer.TheVariants as flat_answers
use Rattle.fop_types.specs.declared.flat.FlatObject.{FlatObject}
use Rattle.fop_types.specs.declared.flat.FlatObject.TheVariants.{File, Directory}
use Rattle.fop_types.specs.declared.flat.FlatOp.{FlatOp}
use Rattle.fop_types.specs.declared.flat.FlatOp.TheVariants as op
use Rattle.flat_fs.specs.Outcomes.{is_accepted}
use Rattle.history_replay.specs.code.Claims.{is_granted}

pub write_changes : (bytes : List ℕ) (gfid : Gfid) (offset : ℕ) → is_change (op.Write gfid offset bytes) ≡ not (length bytes == 0)
write_changes [] gfid offset = refl
write_changes (first ∷ rest) gfid offset = rw (eqb-suc-zero (length rest)) refl

-- Of an operation that may be a change or not: an outcome that is none is an error, or the operation is none; and a change
-- has no error.
abbrev Fits : Bool → Outcome → Type 0
Fits may (Answers a) = (may && is_granted a) ≡ false
Fits may (Changes a files) = (may ≡ true) × (is_granted a ≡ true)

and_no : (b : Bool) → (b && false) ≡ false
and_no true = refl
and_no false = refl

fit_refused : (may : Bool) (e : AppError) → Fits may (refused e)
fit_refused may e = and_no may

fit_checked : (may : Bool) (e : Option AppError) (o : Outcome) → Fits may o → Fits may (checked e o)
fit_checked may None o h = h
fit_checked may (Some e) o h = fit_refused may e

fit_free : (may : Bool) (i : Option Item) (o : Outcome) → Fits may o → Fits may (where_free i o)
fit_free may None o h = h
fit_free may (Some i) o h = and_no may

fit_if : (may test : Bool) (o other : Outcome) → Fits may o → Fits may other → Fits may (if test then o else other)
fit_if may true o other h k = h
fit_if may false o other h k = k

fit_done : (files : Files) → Fits true (done files)
fit_done files = (refl, refl)

fit_rmdir_kind : (k : Kind) (o : Outcome) → Fits true o → Fits true (rmdir_kind k o)
fit_rmdir_kind kinds.File o h = refl
fit_rmdir_kind kinds.Dir o h = h
fit_rmdir_kind kinds.Link o h = refl

fit_unlink_kind : (may : Bool) (k : Kind) (o : Outcome) → Fits may o → Fits may (unlink_kind k o)
fit_unlink_kind may kinds.File o h = h
fit_unlink_kind may kinds.Dir o h = and_no may
fit_unlink_kind may kinds.Link o h = h

fit_file : (may : Bool) (k : Kind) (o : Outcome) → Fits may o → Fits may (where_file k o)
fit_file may kinds.File o h = h
fit_file may kinds.Dir o h = and_no may
fit_file may kinds.Link o h = h

fit_replaceable : (may : Bool) (i : Option Item) (o : Outcome) → Fits may o → Fits may (where_replaceable i o)
fit_replaceable may None o h = h
fit_replaceable may (Some i) o h = fit_unlink_kind may i.kind o h

fit_attr : (a : Option Attr) (o : Outcome) → Fits true o → Fits true (where_attr a o)
fit_attr None o h = refl
fit_attr (Some a) o h = h

fit_lookup : (i : Option Item) → Fits false (lookup_outcome i)
fit_lookup None = refl
fit_lookup (Some i) = refl

fit_rmdir : (files : Files) (parent : Gfid) (name : List ℕ) (i : Option Item) → Fits true (rmdir_outcome files parent name i)
fit_rmdir files parent name None = refl
fit_rmdir files parent name (Some i) =
    fit_rmdir_kind i.kind _ (fit_if true (is_empty (names_at files i.gfid)) _ _ (fit_done (with_removed (without_name files parent name) i.gfid)) refl)

fit_unlink : (files : Files) (parent : Gfid) (name : List ℕ) (i : Option Item) → Fits true (unlink_outcome files parent name i)
fit_unlink files parent name None = refl
fit_unlink files parent name (Some i) = fit_unlink_kind true i.kind _ (fit_done (without_name files parent name))

fit_same : (same : Bool) (files : Files) → Fits (not same) (if same then Answers (flat_answers.Call answers.Done) else done files)
fit_same true files = refl
fit_same false files = (refl, refl)

fit_rename : (files : Files) (parent : Gfid) (name : List ℕ) (target : Gfid) (new_name : List ℕ) (i : Option Item)
    → Fits (not (is_same_name parent name target new_name)) (rename_outcome files parent name target new_name i)
fit_rename files parent name target new_name None = and_no (not (is_same_name parent name target new_name))
fit_rename files parent name target new_name (Some i) =
    let may = not (is_same_name parent name target new_name) in
    fit_file may i.kind _ (fit_checked may (entry_error (object_at files target) new_name) _
    (fit_replaceable may (item_named (names_at files target) new_name) _
    (fit_same (is_same_name parent name target new_name) (with_name (without_name files parent name) target (renamed i new_name)))))

fit_open : (o : Option FlatObject) → Fits false (open_outcome o)
fit_open None = refl
fit_open (Some (File bytes mode attrs)) = refl
fit_open (Some (Directory names mode attrs removed)) = refl

fit_stat : (o : Option FlatObject) → Fits false (stat_outcome o)
fit_stat None = refl
fit_stat (Some (File bytes mode attrs)) = refl
fit_stat (Some (Directory names mode attrs removed)) = refl

fit_list : (o : Option FlatObject) → Fits false (list_outcome o)
fit_list None = refl
fit_list (Some (File bytes mode attrs)) = refl
fit_list (Some (Directory names mode attrs removed)) = fit_if false removed _ _ refl refl

fit_chmod : (files : Files) (gfid : Gfid) (mode : ℕ) (o : Option FlatObject) → Fits true (chmod_outcome files gfid mode o)
fit_chmod files gfid mode None = refl
fit_chmod files gfid mode (Some o) = (refl, refl)

fit_truncate : (files : Files) (gfid : Gfid) (size : ℕ) (o : Option FlatObject) → Fits true (truncate_outcome files gfid size o)
fit_truncate files gfid size None = refl
fit_truncate files gfid size (Some (Directory names mode attrs removed)) = refl
fit_truncate files gfid size (Some (File bytes mode attrs)) = fit_if true (nat_lt file_limit size) _ _ refl (refl, refl)

fit_setattr : (files : Files) (gfid : Gfid) (a : Attr) (o : Option FlatObject) → Fits true (setattr_outcome files gfid a o)
fit_setattr files gfid a None = refl
fit_setattr files gfid a (Some o) = (refl, refl)

fit_found_attr : (a : Option Attr) → Fits false (attr_outcome a)
fit_found_attr None = refl
fit_found_attr (Some a) = refl

fit_getattr : (o : Option FlatObject) (name : List ℕ) → Fits false (getattr_outcome o name)
fit_getattr None name = refl
fit_getattr (Some o) name = fit_found_attr (attr_named (object_attrs o) name)

fit_delattr : (files : Files) (gfid : Gfid) (name : List ℕ) (o : Option FlatObject) → Fits true (delattr_outcome files gfid name o)
fit_delattr files gfid name None = refl
fit_delattr files gfid name (Some o) = fit_attr (attr_named (object_attrs o) name) _ (refl, refl)

fit_read : (o : Option FlatObject) (offset count : ℕ) → Fits false (read_outcome o offset count)
fit_read None offset count = refl
fit_read (Some (Directory names mode attrs removed)) offset count = refl
fit_read (Some (File bytes mode attrs)) offset count = refl

fit_write : (files : Files) (gfid : Gfid) (offset : ℕ) (bytes : List ℕ) (o : Option FlatObject)
    → Fits (is_change (op.Write gfid offset bytes)) (write_outcome files gfid offset bytes o)
fit_write files gfid offset [] None = refl
fit_write files gfid offset [] (Some (Directory names mode attrs removed)) = refl
fit_write files gfid offset [] (Some (File held mode attrs)) = fit_if false (nat_lt file_limit (offset + length {A = ℕ} [])) _ _ refl refl
fit_write files gfid offset (first ∷ rest) None = refl
fit_write files gfid offset (first ∷ rest) (Some (Directory names mode attrs removed)) = refl
fit_write files gfid offset (first ∷ rest) (Some (File held mode attrs)) =
    fit_if true (nat_lt file_limit (offset + length (first ∷ rest))) _ _ refl (refl, refl)

fits : (files : Files) (o : FlatOp) → Fits (is_change o) (flat files o)
fits files (op.Lookup parent name) = fit_checked false (entry_error (object_at files parent) name) _ (fit_lookup (item_named (names_at files parent) name))
fits files (op.Mkdir parent name mode drawn) =
    fit_checked true (entry_error (object_at files parent) name) _ (fit_free true (item_named (names_at files parent) name) _ (refl, refl))
fits files (op.Rmdir parent name) =
    fit_checked true (entry_error (object_at files parent) name) _ (fit_rmdir files parent name (item_named (names_at files parent) name))
fits files (op.Create parent name mode drawn) =
    fit_checked true (entry_error (object_at files parent) name) _ (fit_free true (item_named (names_at files parent) name) _ (refl, refl))
fits files (op.Unlink parent name) =
    fit_checked true (entry_error (object_at files parent) name) _ (fit_unlink files parent name (item_named (names_at files parent) name))
fits files (op.Rename parent name target new_name) =
    fit_checked (not (is_same_name parent name target new_name)) (entry_error (object_at files parent) name) _
    (fit_rename files parent name target new_name (item_named (names_at files parent) name))
fits files (op.Open gfid) = fit_open (object_at files gfid)
fits files (op.Stat gfid) = fit_stat (object_at files gfid)
fits files (op.List gfid) = fit_list (object_at files gfid)
fits files (op.Chmod gfid mode) = fit_chmod files gfid mode (object_at files gfid)
fits files (op.Truncate gfid size) = fit_truncate files gfid size (object_at files gfid)
fits files (op.SetAttr gfid attr) = fit_setattr files gfid attr (object_at files gfid)
fits files (op.GetAttr gfid name) = fit_getattr (object_at files gfid) name
fits files (op.DelAttr gfid name) = fit_delattr files gfid name (object_at files gfid)
fits files (op.Read gfid offset count) = fit_read (object_at files gfid) offset count
fits files (op.Write gfid offset bytes) = fit_write files gfid offset bytes (object_at files gfid)

-- ---- what the answer says

kept_by : (files : Files) (may : Bool) (o : Outcome) → Fits may o → (may && is_granted (answer_in o)) ≡ false → files_in o files ≡ files
kept_by files may (Answers a) fit differs = refl
kept_by files may (Changes a after) fit differs =
    let holds : (may && is_granted a) ≡ true = rw fit.0 (rw fit.1 refl) in
    absurd (true≢false (sym holds ∙ differs))

changed_by : (may : Bool) (o : Outcome) → Fits may o → (may && is_granted (answer_in o)) ≡ true → IsChange o
changed_by may (Answers a) fit holds = absurd (true≢false (sym holds ∙ fit))
changed_by may (Changes a after) fit holds = tt

-- an operation that is no change, or is refused, leaves the files as they are
pub kept : (files : Files) (o : FlatOp) → (is_change o && is_granted (flat_answer files o)) ≡ false → flat_after files o ≡ files
kept files o differs = kept_by files (is_change o) (flat files o) (fits files o) differs

-- one that is a change and is not refused is made
pub changed : (files : Files) (o : FlatOp) → (is_change o && is_granted (flat_answer files o)) ≡ true → IsChange (flat files o)
changed files o holds = changed_by (is_change o) (flat files o) (fits files o) holds

pub lookup_keeps : (files : Files) (parent : Gfid) (name : List ℕ) → flat_after files (op.Lookup parent name) ≡ files
lookup_keeps files parent name = kept files (op.Lookup parent name) refl

pub accepted_is : (o : Outcome) → is_accepted o ≡ true → IsChange o
accepted_is (Answers a) h = absurd (true≢false (sym h))
accepted_is (Changes a files) h = tt
