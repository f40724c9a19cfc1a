-- The edits of names as the definitions of the operations say them, and the cases of their outcomes.
use Rattle.std.proofs.Common.{◌≡◌, ◌∷◌, sym, refl, ℕ, ◌==◌, List, [], length}
use Rattle.std.specs.Prelude.{Option, Some, None, if◌then◌else◌}
use Rattle.std.proofs.Math.Dec.{eqb-suc-zero}
use Rattle.fop_types.specs.Files.{Files, object_at, names_of, with_names_in, with_removed_in, with_removed}
use Rattle.fop_types.specs.Flat.{Outcome, refused, is_empty, with_name, without_name, where_replaceable, unlink_kind, write_of}
use Rattle.fop_types.specs.Flat.Outcome.{Answers, Changes}
use Rattle.fop_types.specs.Names.{with_item, without_item, is_directory}
use Rattle.fop_types.specs.declared.answers.Answer.TheVariants as answer
use Rattle.fop_types.specs.declared.answers.AppError.TheVariants.{Eisdir}
use Rattle.fop_types.specs.declared.cells.Gfid.{Gfid}
use Rattle.fop_types.specs.declared.cells.Kind.{Kind}
use Rattle.fop_types.specs.declared.cells.Kind.TheVariants as kind
use Rattle.fop_types.specs.declared.contents.Item.{Item}
use Rattle.fop_types.specs.declared.flat.FlatObject.{FlatObject}
use Rattle.fop_types.specs.declared.flat.FlatAnswer.TheVariants.{Call}
use Rattle.flat_fs.specs.Edits.{edited_in, edited_at}
use Rattle.flat_fs.specs.Outcomes.{names_directory}
use Rattle.flat_fs.specs.declared.edits.Edit.TheVariants.{PutItem, DropItem, MarkRemoved}

put_in : (files : Files) (parent : Gfid) (item : Item) (o : Option FlatObject) → edited_in files parent (PutItem item) o ≡ with_names_in files parent o (with_item (names_of o) item)
put_in files parent item None = refl
put_in files parent item (Some object) = refl

pub put_item_is : (files : Files) (parent : Gfid) (item : Item) → edited_at files parent (PutItem item) ≡ with_name files parent item
put_item_is files parent item = put_in files parent item (object_at files parent)

drop_in : (files : Files) (parent : Gfid) (name : List ℕ) (o : Option FlatObject) → edited_in files parent (DropItem name) o ≡ with_names_in files parent o (without_item (names_of o) name)
drop_in files parent name None = refl
drop_in files parent name (Some object) = refl

pub drop_item_is : (files : Files) (parent : Gfid) (name : List ℕ) → edited_at files parent (DropItem name) ≡ without_name files parent name
drop_item_is files parent name = drop_in files parent name (object_at files parent)

mark_in : (files : Files) (gfid : Gfid) (o : Option FlatObject) → edited_in files gfid MarkRemoved o ≡ with_removed_in files gfid o
mark_in files gfid None = refl
mark_in files gfid (Some object) = refl

pub mark_removed_is : (files : Files) (gfid : Gfid) → edited_at files gfid MarkRemoved ≡ with_removed files gfid
mark_removed_is files gfid = mark_in files gfid (object_at files gfid)

pub is_empty_is : (items : List Item) → is_empty items ≡ (length items == 0)
is_empty_is [] = refl
is_empty_is (item ∷ items) = sym (eqb-suc-zero (length items))

by_kind : (k : Kind) (outcome : Outcome) → unlink_kind k outcome ≡ (if is_directory k then refused Eisdir else outcome)
by_kind kind.File outcome = refl
by_kind kind.Dir outcome = refl
by_kind kind.Link outcome = refl

pub replaceable_is : (o : Option Item) (outcome : Outcome) → where_replaceable o outcome ≡ (if names_directory o then refused Eisdir else outcome)
replaceable_is None outcome = refl
replaceable_is (Some item) outcome = by_kind item.kind outcome

pub write_of_is : (new : List ℕ) (files : Files)
    → write_of new files ≡ (if length new == 0 then Answers (Call (answer.Count 0)) else Changes (Call (answer.Count (length new))) files)
write_of_is [] files = refl
write_of_is (first ∷ rest) files = rw (eqb-suc-zero (length rest)) refl
