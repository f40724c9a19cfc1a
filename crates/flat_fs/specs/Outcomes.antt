-- Outcomes of the flat file system's operations on names, by what was found before.
use Rattle.std.specs.Prelude.{ℕ, Bool, true, false, List, Option, Some, None, if◌then◌else◌}
use Rattle.fop_types.specs.Files.{Files, object_at, names_at, with_removed}
use Rattle.fop_types.specs.Flat.{Outcome, refused, done, entry_error, checked, where_free, with_new, without_name, with_name, is_empty, is_same_name, rmdir_kind, unlink_kind, where_file, where_replaceable}
use Rattle.fop_types.specs.Flat.Outcome.{Answers, Changes}
use Rattle.fop_types.specs.Names.{item_named, is_directory}
use Rattle.fop_types.specs.declared.answers.Answer.TheVariants as answer
use Rattle.fop_types.specs.declared.answers.AppError.TheVariants.{Enotempty}
use Rattle.fop_types.specs.declared.cells.Gfid.{Gfid}
use Rattle.fop_types.specs.declared.cells.Kind.{Kind}
use Rattle.fop_types.specs.declared.contents.Item.{Item}
use Rattle.fop_types.specs.declared.flat.FlatObject.{FlatObject}
use Rattle.fop_types.specs.declared.flat.FlatAnswer.TheVariants.{Call}

-- mkdir and create, which make this object under this item
abbrev pub made : Files → Gfid → Item → FlatObject → Outcome
made files parent item object =
    checked (entry_error (object_at files parent) item.name)
    (where_free (item_named (names_at files parent) item.name) (done (with_new files parent item object)))

-- rmdir, where the name is that of an object of this gfid and kind
abbrev pub removed_child : Files → Gfid → List ℕ → Gfid → Kind → Outcome
removed_child files parent name gfid kind =
    rmdir_kind kind
    (if is_empty (names_at files gfid) then done (with_removed (without_name files parent name) gfid) else refused Enotempty)

-- unlink, where the name is that of an object of this kind
abbrev pub unlinked_child : Files → Gfid → List ℕ → Kind → Outcome
unlinked_child files parent name kind = unlink_kind kind (done (without_name files parent name))

-- rename, where `moved` is the item of the first name under the second one, and is no directory
abbrev pub moved_file : Files → Gfid → List ℕ → Gfid → Item → Outcome
moved_file files parent name target moved =
    checked (entry_error (object_at files target) moved.name)
    (where_replaceable (item_named (names_at files target) moved.name)
    (if is_same_name parent name target moved.name then Answers (Call answer.Done)
    else done (with_name (without_name files parent name) target moved)))

abbrev pub moved_child : Files → Gfid → List ℕ → Gfid → Item → Outcome
moved_child files parent name target moved = where_file moved.kind (moved_file files parent name target moved)

-- whether a name is that of a directory
abbrev pub names_directory : Option Item → Bool
names_directory None = false
names_directory (Some item) = is_directory item.kind

-- whether an outcome is a change
abbrev pub is_accepted : Outcome → Bool
is_accepted (Answers a) = false
is_accepted (Changes a files) = true
