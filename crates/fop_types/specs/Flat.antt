-- The flat file system: for each operation its answer and the files after it. The cases and their errors are those
-- of POSIX.1-2017, with our own order where it leaves one open; each line of a case below is one error, in order.
use Rattle.std.specs.Prelude.{ℕ, ◌+◌, Bool, true, false, not, List, [], ◌∷◌, Option, Some, None, length, nat_lt, if◌then◌else◌}
use Rattle.fop_types.specs.FileBytes.{file_limit, written, resized, read_from}
use Rattle.fop_types.specs.Files.{Files, object_at, with_object, new_file, new_directory, names_at, object_with_mode, object_with_attrs, object_attrs, with_names, with_removed}
use Rattle.fop_types.specs.Limits.{max_item_name}
use Rattle.fop_types.specs.Names.{item_named, with_item, without_item, attr_named, with_attr, without_attr}
pub use Rattle.fop_types.specs.Names.{renamed, is_same_name}
use Rattle.fop_types.specs.declared.cells.Gfid.{Gfid}
use Rattle.fop_types.specs.declared.cells.Kind.{Kind}
use Rattle.fop_types.specs.declared.cells.Kind.TheVariants as kind
use Rattle.fop_types.specs.declared.contents.Attr.{Attr}
use Rattle.fop_types.specs.declared.contents.Item.{Item}
use Rattle.fop_types.specs.declared.answers.Answer.TheVariants as answer
use Rattle.fop_types.specs.declared.answers.AppError.{AppError}
use Rattle.fop_types.specs.declared.answers.AppError.TheVariants.{Enoent, Enotdir, Enametoolong, Eexist, Enotempty, Eisdir, Eopnotsupp, Efbig, Enodata}
use Rattle.fop_types.specs.declared.flat.FlatObject.{FlatObject}
use Rattle.fop_types.specs.declared.flat.FlatObject.TheVariants.{File, Directory}
use Rattle.fop_types.specs.declared.flat.FlatOp.{FlatOp}
use Rattle.fop_types.specs.declared.flat.FlatOp.TheVariants as op
use Rattle.fop_types.specs.declared.flat.FlatAnswer.{FlatAnswer}
use Rattle.fop_types.specs.declared.flat.FlatAnswer.TheVariants.{Found, Call}

-- the greatest length of a name
abbrev pub name_limit : ℕ
name_limit = max_item_name

-- what an operation comes to: an answer, and nothing changes; or a change, with its answer and the files after it
pub data Outcome : Type 0 where
  Answers : (answer : FlatAnswer) → Outcome
  Changes : (answer : FlatAnswer) → (files : Files) → Outcome

abbrev pub refused : AppError → Outcome
refused error = Answers (Call (answer.App error))

abbrev pub done : Files → Outcome
done files = Changes (Call answer.Done) files

-- ---- what operations share

-- what every operation on a name in a directory looks at before it looks for the name: the object is there, is a
-- directory, the name has at most 255 bytes, the directory is not removed
abbrev pub entry_error : Option FlatObject → List ℕ → Option AppError
entry_error None name = Some Enoent
entry_error (Some (File bytes mode attrs)) name = Some Enotdir
entry_error (Some (Directory names mode attrs removed)) name =
    if nat_lt name_limit (length name) then Some Enametoolong else (if removed then Some Enoent else None)

abbrev pub checked : Option AppError → Outcome → Outcome
checked None outcome = outcome
checked (Some error) outcome = refused error

abbrev pub where_free : Option Item → Outcome → Outcome
where_free None outcome = outcome
where_free (Some item) outcome = refused Eexist

abbrev pub item_of : List ℕ → Gfid → Kind → Item
item_of name gfid kind = record { name = name; gfid = gfid; kind = kind; target = [] }

-- the files with a new object and its name
abbrev pub with_new : Files → Gfid → Item → FlatObject → Files
with_new files parent item object =
    with_object (with_names files parent (with_item (names_at files parent) item)) item.gfid object

abbrev pub without_name : Files → Gfid → List ℕ → Files
without_name files parent name = with_names files parent (without_item (names_at files parent) name)

abbrev pub with_name : Files → Gfid → Item → Files
with_name files parent item = with_names files parent (with_item (names_at files parent) item)

-- ---- names

abbrev pub lookup_outcome : Option Item → Outcome
lookup_outcome None = refused Enoent
lookup_outcome (Some item) = Answers (Found item.gfid item.kind)

abbrev pub is_empty : List Item → Bool
is_empty [] = true
is_empty (item ∷ items) = false

abbrev pub rmdir_kind : Kind → Outcome → Outcome
rmdir_kind kind.File outcome = refused Enotdir
rmdir_kind kind.Dir outcome = outcome
rmdir_kind kind.Link outcome = refused Enotdir

abbrev pub rmdir_outcome : Files → Gfid → List ℕ → Option Item → Outcome
rmdir_outcome files parent name None = refused Enoent
rmdir_outcome files parent name (Some item) =
    rmdir_kind item.kind
    (if is_empty (names_at files item.gfid) then done (with_removed (without_name files parent name) item.gfid) else refused Enotempty)

abbrev pub unlink_kind : Kind → Outcome → Outcome
unlink_kind kind.File outcome = outcome
unlink_kind kind.Dir outcome = refused Eisdir
unlink_kind kind.Link outcome = outcome

-- the file stays, under its gfid, though its name is gone
abbrev pub unlink_outcome : Files → Gfid → List ℕ → Option Item → Outcome
unlink_outcome files parent name None = refused Enoent
unlink_outcome files parent name (Some item) = unlink_kind item.kind (done (without_name files parent name))

abbrev pub where_file : Kind → Outcome → Outcome
where_file kind.File outcome = outcome
where_file kind.Dir outcome = refused Eopnotsupp
where_file kind.Link outcome = outcome

abbrev pub where_replaceable : Option Item → Outcome → Outcome
where_replaceable None outcome = outcome
where_replaceable (Some item) outcome = unlink_kind item.kind outcome

-- a rename of a name to itself changes nothing; else a file of the new name is replaced
abbrev pub rename_outcome : Files → Gfid → List ℕ → Gfid → List ℕ → Option Item → Outcome
rename_outcome files parent name target new_name None = refused Enoent
rename_outcome files parent name target new_name (Some item) =
    where_file item.kind
    (checked (entry_error (object_at files target) new_name)
    (where_replaceable (item_named (names_at files target) new_name)
    (if is_same_name parent name target new_name then Answers (Call answer.Done)
    else done (with_name (without_name files parent name) target (renamed item new_name)))))

-- ---- objects

abbrev pub open_outcome : Option FlatObject → Outcome
open_outcome None = refused Enoent
open_outcome (Some (File bytes mode attrs)) = Answers (Call answer.Done)
open_outcome (Some (Directory names mode attrs removed)) = refused Eisdir

-- a directory's size is 0
abbrev pub stat_outcome : Option FlatObject → Outcome
stat_outcome None = refused Enoent
stat_outcome (Some (File bytes mode attrs)) = Answers (Call (answer.Stat kind.File mode (length bytes)))
stat_outcome (Some (Directory names mode attrs removed)) = Answers (Call (answer.Stat kind.Dir mode 0))

abbrev pub list_outcome : Option FlatObject → Outcome
list_outcome None = refused Enoent
list_outcome (Some (File bytes mode attrs)) = refused Enotdir
list_outcome (Some (Directory names mode attrs removed)) =
    if removed then refused Enoent else Answers (Call (answer.List names))

abbrev pub chmod_outcome : Files → Gfid → ℕ → Option FlatObject → Outcome
chmod_outcome files gfid mode None = refused Enoent
chmod_outcome files gfid mode (Some object) = done (with_object files gfid (object_with_mode object mode))

abbrev pub truncate_outcome : Files → Gfid → ℕ → Option FlatObject → Outcome
truncate_outcome files gfid size None = refused Enoent
truncate_outcome files gfid size (Some (Directory names mode attrs removed)) = refused Eisdir
truncate_outcome files gfid size (Some (File bytes mode attrs)) =
    if nat_lt file_limit size then refused Efbig
    else done (with_object files gfid (File (resized bytes size) mode attrs))

abbrev pub setattr_outcome : Files → Gfid → Attr → Option FlatObject → Outcome
setattr_outcome files gfid attr None = refused Enoent
setattr_outcome files gfid attr (Some object) =
    done (with_object files gfid (object_with_attrs object (with_attr (object_attrs object) attr)))

abbrev pub attr_outcome : Option Attr → Outcome
attr_outcome None = refused Enodata
attr_outcome (Some attr) = Answers (Call (answer.Bytes attr.value))

abbrev pub getattr_outcome : Option FlatObject → List ℕ → Outcome
getattr_outcome None name = refused Enoent
getattr_outcome (Some object) name = attr_outcome (attr_named (object_attrs object) name)

abbrev pub where_attr : Option Attr → Outcome → Outcome
where_attr None outcome = refused Enodata
where_attr (Some attr) outcome = outcome

abbrev pub delattr_outcome : Files → Gfid → List ℕ → Option FlatObject → Outcome
delattr_outcome files gfid name None = refused Enoent
delattr_outcome files gfid name (Some object) =
    where_attr (attr_named (object_attrs object) name)
    (done (with_object files gfid (object_with_attrs object (without_attr (object_attrs object) name))))

abbrev pub read_outcome : Option FlatObject → ℕ → ℕ → Outcome
read_outcome None offset count = refused Enoent
read_outcome (Some (Directory names mode attrs removed)) offset count = refused Eisdir
read_outcome (Some (File bytes mode attrs)) offset count = Answers (Call (answer.Bytes (read_from bytes offset count)))

-- a write of no bytes changes nothing
abbrev pub write_of : List ℕ → Files → Outcome
write_of [] files = Answers (Call (answer.Count 0))
write_of (first ∷ rest) files = Changes (Call (answer.Count (length (first ∷ rest)))) files

abbrev pub write_outcome : Files → Gfid → ℕ → List ℕ → Option FlatObject → Outcome
write_outcome files gfid offset new None = refused Enoent
write_outcome files gfid offset new (Some (Directory names mode attrs removed)) = refused Eisdir
write_outcome files gfid offset new (Some (File bytes mode attrs)) =
    if nat_lt file_limit (offset + length new) then refused Efbig
    else write_of new (with_object files gfid (File (written bytes offset new) mode attrs))

-- ---- the operations

abbrev pub flat : Files → FlatOp → Outcome
flat files (op.Lookup parent name) =
    checked (entry_error (object_at files parent) name) (lookup_outcome (item_named (names_at files parent) name))
flat files (op.Mkdir parent name mode drawn) =
    checked (entry_error (object_at files parent) name)
    (where_free (item_named (names_at files parent) name)
    (done (with_new files parent (item_of name drawn kind.Dir) (new_directory mode))))
flat files (op.Rmdir parent name) =
    checked (entry_error (object_at files parent) name)
    (rmdir_outcome files parent name (item_named (names_at files parent) name))
flat files (op.Create parent name mode drawn) =
    checked (entry_error (object_at files parent) name)
    (where_free (item_named (names_at files parent) name)
    (done (with_new files parent (item_of name drawn kind.File) (new_file mode))))
flat files (op.Unlink parent name) =
    checked (entry_error (object_at files parent) name)
    (unlink_outcome files parent name (item_named (names_at files parent) name))
flat files (op.Rename parent name target new_name) =
    checked (entry_error (object_at files parent) name)
    (rename_outcome files parent name target new_name (item_named (names_at files parent) name))
flat files (op.Open gfid) = open_outcome (object_at files gfid)
flat files (op.Stat gfid) = stat_outcome (object_at files gfid)
flat files (op.List gfid) = list_outcome (object_at files gfid)
flat files (op.Chmod gfid mode) = chmod_outcome files gfid mode (object_at files gfid)
flat files (op.Truncate gfid size) = truncate_outcome files gfid size (object_at files gfid)
flat files (op.SetAttr gfid attr) = setattr_outcome files gfid attr (object_at files gfid)
flat files (op.GetAttr gfid name) = getattr_outcome (object_at files gfid) name
flat files (op.DelAttr gfid name) = delattr_outcome files gfid name (object_at files gfid)
flat files (op.Read gfid offset count) = read_outcome (object_at files gfid) offset count
flat files (op.Write gfid offset bytes) = write_outcome files gfid offset bytes (object_at files gfid)

abbrev pub answer_in : Outcome → FlatAnswer
answer_in (Answers answer) = answer
answer_in (Changes answer files) = answer

abbrev pub files_in : Outcome → Files → Files
files_in (Answers answer) before = before
files_in (Changes answer files) before = files

abbrev pub flat_answer : Files → FlatOp → FlatAnswer
flat_answer files op = answer_in (flat files op)

-- an operation that changes nothing leaves the files as they are
abbrev pub flat_after : Files → FlatOp → Files
flat_after files op = files_in (flat files op) files

abbrev pub IsChange : Outcome → Type 0
IsChange (Answers answer) = ⊥
IsChange (Changes answer files) = Unit {0}

-- whether an operation is a change where nothing is refused
abbrev pub is_change : FlatOp → Bool
is_change (op.Lookup parent name) = false
is_change (op.Mkdir parent name mode drawn) = true
is_change (op.Rmdir parent name) = true
is_change (op.Create parent name mode drawn) = true
is_change (op.Unlink parent name) = true
is_change (op.Rename parent name target new_name) = not (is_same_name parent name target new_name)
is_change (op.Open gfid) = false
is_change (op.Stat gfid) = false
is_change (op.List gfid) = false
is_change (op.Chmod gfid mode) = true
is_change (op.Truncate gfid size) = true
is_change (op.SetAttr gfid attr) = true
is_change (op.GetAttr gfid name) = false
is_change (op.DelAttr gfid name) = true
is_change (op.Read gfid offset count) = false
is_change (op.Write gfid offset []) = false
is_change (op.Write gfid offset (first ∷ rest)) = true
