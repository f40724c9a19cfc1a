-- Where the flat file system accepts the operation of a change, its answer is that to the change.
use Rattle.std.proofs.Common.{◌≡◌, ◌∙◌, ℕ, ◌+◌, Bool, true, false, List, [], ◌∷◌, Option, Some, None, if◌then◌else◌, length, nat_lt, refl, sym, subst}
use Rattle.dht_fops.specs.Answers.{added, change_of}
use Rattle.dht_laws.specs.Endings.{answer_to, added_answer, call_answer, FlatAnswersChanges}
use Rattle.fop_types.specs.FileBytes.{file_limit}
use Rattle.fop_types.specs.Files.{Files, object_at, names_at, object_attrs, new_directory, new_file}
use Rattle.fop_types.specs.Flat.{Outcome, flat, checked, done, entry_error, item_of, with_new, where_free, rmdir_kind, rmdir_outcome, is_empty, unlink_kind, unlink_outcome, where_file, where_replaceable, rename_outcome, chmod_outcome, truncate_outcome, setattr_outcome, where_attr, delattr_outcome, write_of, write_outcome}
use Rattle.fop_types.specs.Flat.Outcome.{Answers, Changes}
use Rattle.fop_types.specs.Names.{attr_named, item_named, is_same_name}
use Rattle.fop_types.specs.declared.answers.Answer.{Answer}
use Rattle.fop_types.specs.declared.answers.Answer.TheVariants as answer
use Rattle.fop_types.specs.declared.answers.AppError.{AppError}
use Rattle.fop_types.specs.declared.cells.Gfid.{Gfid}
use Rattle.fop_types.specs.declared.cells.Kind.{Kind}
use Rattle.fop_types.specs.declared.cells.Kind.TheVariants as kind
use Rattle.fop_types.specs.declared.contents.Attr.{Attr}
use Rattle.fop_types.specs.declared.contents.Item.{Item}
use Rattle.fop_types.specs.declared.flat.FlatAnswer.{FlatAnswer}
use Rattle.fop_types.specs.declared.flat.FlatAnswer.TheVariants.{Call}
use Rattle.fop_types.specs.declared.flat.FlatObject.{FlatObject}
use Rattle.fop_types.specs.declared.flat.FlatObject.TheVariants.{File, Directory}
use Rattle.fop_types.specs.declared.flat.FlatOp.{FlatOp}
use Rattle.fop_types.specs.declared.flat.FlatOp.TheVariants as op
use Rattle.fop_types.specs.declared.store_ops.StoreOp.{StoreOp}
use Rattle.fop_types.specs.declared.store_ops.StoreOp.TheVariants as store

-- a change, if it is one, is answered so
abbrev pub AnswersWith : Answer → Outcome → Type 0
AnswersWith a (Answers said) = Unit {0}
AnswersWith a (Changes said files) = said ≡ Call a

-- ---- what operations share

checked_answers : (a : Answer) (error : Option AppError) (outcome : Outcome) → AnswersWith a outcome → AnswersWith a (checked error outcome)
checked_answers a None outcome w = w
checked_answers a (Some error) outcome w = tt

free_answers : (a : Answer) (item : Option Item) (outcome : Outcome) → AnswersWith a outcome → AnswersWith a (where_free item outcome)
free_answers a None outcome w = w
free_answers a (Some item) outcome w = tt

if_answers : (a : Answer) (one other : Outcome) (b : Bool) → AnswersWith a one → AnswersWith a other → AnswersWith a (if b then one else other)
if_answers a one other true w x = w
if_answers a one other false w x = x

rmdir_kind_answers : (a : Answer) (k : Kind) (outcome : Outcome) → AnswersWith a outcome → AnswersWith a (rmdir_kind k outcome)
rmdir_kind_answers a kind.File outcome w = tt
rmdir_kind_answers a kind.Dir outcome w = w
rmdir_kind_answers a kind.Link outcome w = tt

unlink_kind_answers : (a : Answer) (k : Kind) (outcome : Outcome) → AnswersWith a outcome → AnswersWith a (unlink_kind k outcome)
unlink_kind_answers a kind.File outcome w = w
unlink_kind_answers a kind.Dir outcome w = tt
unlink_kind_answers a kind.Link outcome w = w

file_answers : (a : Answer) (k : Kind) (outcome : Outcome) → AnswersWith a outcome → AnswersWith a (where_file k outcome)
file_answers a kind.File outcome w = w
file_answers a kind.Dir outcome w = tt
file_answers a kind.Link outcome w = w

replaceable_answers : (a : Answer) (item : Option Item) (outcome : Outcome) → AnswersWith a outcome → AnswersWith a (where_replaceable item outcome)
replaceable_answers a None outcome w = w
replaceable_answers a (Some item) outcome w = unlink_kind_answers a item.kind outcome w

attr_answers : (a : Answer) (attr : Option Attr) (outcome : Outcome) → AnswersWith a outcome → AnswersWith a (where_attr attr outcome)
attr_answers a None outcome w = tt
attr_answers a (Some attr) outcome w = w

-- ---- operations on a name

mkdir_answers : (files : Files) (parent : Gfid) (name : List ℕ) (mode : ℕ) (drawn : Gfid) → AnswersWith answer.Done (flat files (op.Mkdir parent name mode drawn))
mkdir_answers files parent name mode drawn =
    checked_answers answer.Done (entry_error (object_at files parent) name) _
    (free_answers answer.Done (item_named (names_at files parent) name) (done (with_new files parent (item_of name drawn kind.Dir) (new_directory mode))) refl)

create_answers : (files : Files) (parent : Gfid) (name : List ℕ) (mode : ℕ) (drawn : Gfid) → AnswersWith answer.Done (flat files (op.Create parent name mode drawn))
create_answers files parent name mode drawn =
    checked_answers answer.Done (entry_error (object_at files parent) name) _
    (free_answers answer.Done (item_named (names_at files parent) name) (done (with_new files parent (item_of name drawn kind.File) (new_file mode))) refl)

rmdir_answers : (files : Files) (parent : Gfid) (name : List ℕ) → AnswersWith answer.Done (flat files (op.Rmdir parent name))
rmdir_answers files parent name = checked_answers answer.Done _ _ (by_item (item_named (names_at files parent) name))
  where
    by_item : (item : Option Item) → AnswersWith answer.Done (rmdir_outcome files parent name item)
    by_item None = tt
    by_item (Some item) = rmdir_kind_answers answer.Done item.kind _ (if_answers answer.Done _ _ (is_empty (names_at files item.gfid)) refl tt)

unlink_answers : (files : Files) (parent : Gfid) (name : List ℕ) → AnswersWith answer.Done (flat files (op.Unlink parent name))
unlink_answers files parent name = checked_answers answer.Done _ _ (by_item (item_named (names_at files parent) name))
  where
    by_item : (item : Option Item) → AnswersWith answer.Done (unlink_outcome files parent name item)
    by_item None = tt
    by_item (Some item) = unlink_kind_answers answer.Done item.kind _ refl

rename_answers : (files : Files) (parent : Gfid) (name : List ℕ) (target : Gfid) (new_name : List ℕ) → AnswersWith answer.Done (flat files (op.Rename parent name target new_name))
rename_answers files parent name target new_name = checked_answers answer.Done _ _ (by_item (item_named (names_at files parent) name))
  where
    by_item : (item : Option Item) → AnswersWith answer.Done (rename_outcome files parent name target new_name item)
    by_item None = tt
    by_item (Some item) =
        file_answers answer.Done item.kind _
        (checked_answers answer.Done _ _ (replaceable_answers answer.Done (item_named (names_at files target) new_name) _ (if_answers answer.Done _ _ (is_same_name parent name target new_name) tt refl)))

-- ---- operations on an object

chmod_answers : (files : Files) (gfid : Gfid) (mode : ℕ) (object : Option FlatObject) → AnswersWith answer.Done (chmod_outcome files gfid mode object)
chmod_answers files gfid mode None = tt
chmod_answers files gfid mode (Some object) = refl

setattr_answers : (files : Files) (gfid : Gfid) (attr : Attr) (object : Option FlatObject) → AnswersWith answer.Done (setattr_outcome files gfid attr object)
setattr_answers files gfid attr None = tt
setattr_answers files gfid attr (Some object) = refl

delattr_answers : (files : Files) (gfid : Gfid) (name : List ℕ) (object : Option FlatObject) → AnswersWith answer.Done (delattr_outcome files gfid name object)
delattr_answers files gfid name None = tt
delattr_answers files gfid name (Some object) = attr_answers answer.Done (attr_named (object_attrs object) name) _ refl

truncate_answers : (files : Files) (gfid : Gfid) (size : ℕ) (object : Option FlatObject) → AnswersWith answer.Done (truncate_outcome files gfid size object)
truncate_answers files gfid size None = tt
truncate_answers files gfid size (Some (File bytes mode attrs)) = if_answers answer.Done _ _ (nat_lt file_limit size) tt refl
truncate_answers files gfid size (Some (Directory names mode attrs removed)) = tt

written_answers : (files : Files) (bytes : List ℕ) → AnswersWith (answer.Count (length bytes)) (write_of bytes files)
written_answers files [] = tt
written_answers files (first ∷ rest) = refl

write_answers : (files : Files) (gfid : Gfid) (offset : ℕ) (new : List ℕ) (object : Option FlatObject) → AnswersWith (answer.Count (length new)) (write_outcome files gfid offset new object)
write_answers files gfid offset new None = tt
write_answers files gfid offset new (Some (File bytes mode attrs)) = if_answers (answer.Count (length new)) _ _ (nat_lt file_limit (offset + length new)) tt (written_answers _ new)
write_answers files gfid offset new (Some (Directory names mode attrs removed)) = tt

-- ---- all

same_op : (a : Answer) (files : Files) (own one : FlatOp) → Some own ≡ Some one → AnswersWith a (flat files own) → AnswersWith a (flat files one)
same_op a files own one e w = let same : own ≡ one = cc in subst (λ (o : FlatOp). AnswersWith a (flat files o)) same w

added_answers : (files : Files) (set : ℕ) (parent : Gfid) (item : Item) (mode : ℕ) (k : Kind) (one : FlatOp) → added parent item mode k ≡ Some one → AnswersWith (call_answer (added_answer set item.gfid k)) (flat files one)
added_answers files set parent item mode kind.File one e = same_op answer.Done files (op.Create parent item.name mode item.gfid) one e (create_answers files parent item.name mode item.gfid)
added_answers files set parent item mode kind.Dir one e = same_op answer.Done files (op.Mkdir parent item.name mode item.gfid) one e (mkdir_answers files parent item.name mode item.gfid)
added_answers files set parent item mode kind.Link one e = absurd (let wrong : ◌≡◌ {A = Option FlatOp} None (Some one) = e in cc)

change_answers : (files : Files) (set : ℕ) (o : StoreOp) (one : FlatOp) → change_of o ≡ Some one → AnswersWith (call_answer (answer_to set o)) (flat files one)
change_answers files set (store.AddName parent item mode span) one e = added_answers files set parent item mode item.kind one e
change_answers files set (store.DropName parent name) one e = same_op answer.Done files (op.Unlink parent name) one e (unlink_answers files parent name)
change_answers files set (store.DropDir parent name gfid) one e = same_op answer.Done files (op.Rmdir parent name) one e (rmdir_answers files parent name)
change_answers files set (store.Move parent name target new_name) one e = same_op answer.Done files (op.Rename parent name target new_name) one e (rename_answers files parent name target new_name)
change_answers files set (store.Write gfid offset bytes) one e = same_op (answer.Count (length bytes)) files (op.Write gfid offset bytes) one e (write_answers files gfid offset bytes (object_at files gfid))
change_answers files set (store.Truncate gfid size) one e = same_op answer.Done files (op.Truncate gfid size) one e (truncate_answers files gfid size (object_at files gfid))
change_answers files set (store.SetMode gfid mode) one e = same_op answer.Done files (op.Chmod gfid mode) one e (chmod_answers files gfid mode (object_at files gfid))
change_answers files set (store.SetAttr gfid attr) one e = same_op answer.Done files (op.SetAttr gfid attr) one e (setattr_answers files gfid attr (object_at files gfid))
change_answers files set (store.DelAttr gfid name) one e = same_op answer.Done files (op.DelAttr gfid name) one e (delattr_answers files gfid name (object_at files gfid))
change_answers files set (store.MakeCopy gfid span) one e = absurd (let wrong : ◌≡◌ {A = Option FlatOp} None (Some one) = e in cc)

by_outcome : (a : Answer) (outcome : Outcome) (said : FlatAnswer) (after : Files) → AnswersWith a outcome → outcome ≡ Changes said after → said ≡ Call a
by_outcome a (Answers other) said after w e = absurd cc
by_outcome a (Changes other files) said after w e = let same : other ≡ said = cc in sym same ∙ w

pub flat_answers : FlatAnswersChanges
flat_answers = λ files after set o one a e accepted. by_outcome (call_answer (answer_to set o)) (flat files one) a after (change_answers files set o one e) accepted
