-- The fops on an object answer as the flat file system does, and their changes are ones that it accepts.
use Rattle.std.proofs.Common.{◌≡◌, ◌∙◌, ℕ, ◌+◌, ◌≤◌, Bool, true, false, List, [], ◌∷◌, Option, Some, None, if◌then◌else◌, length, nat_lt, refl, ap, sym, subst, arith}
use Rattle.std.proofs.Math.Nat.{min-eq_left}
use Rattle.dht_linkto.specs.DirNames.{first_content}
use Rattle.dht_laws.proofs.FlatGoing.{GoesFlat, read_flat, number_flat, change_flat, if_flat}
use Rattle.dht_laws.proofs.FlatObjects.{IsFile, IsDirectory, made_file, made_directory, kind_by}
use Rattle.dht_fops.specs.Answers.{IsAccepted}
use Rattle.dht_fops.specs.Handed.Event.{Replied}
use Rattle.dht_fops.specs.Objects.{bytes_of, mode_of, second_content, size_of, home, meta_job, opens, stats, gets_attr, attr_value, reads_bytes, truncates, dels_attr, drops_attr, writes, writes_some}
use Rattle.dht_fops.specs.Standing.{Volumes, AreSound, IsMade, HaveContents}
use Rattle.dht_fops.specs.declared.volume.Volume.{Volume}
use Rattle.fop_types.specs.Cells.{data_cell, meta_cell}
use Rattle.fop_types.specs.FileBytes.{file_limit, read_from, resized, written}
use Rattle.fop_types.specs.Files.{object_at, object_attrs, with_object, object_with_mode, object_with_attrs}
use Rattle.fop_types.specs.Flat.{flat, refused, attr_outcome}
use Rattle.fop_types.specs.Flat.Outcome.{Answers}
use Rattle.fop_types.specs.Jobs.{may_lack}
use Rattle.fop_types.specs.Limits.{max_data}
use Rattle.fop_types.specs.Names.{is_directory, attr_named, with_attr, without_attr}
use Rattle.fop_types.specs.StoreOps.{attrs_of}
use Rattle.fop_types.specs.declared.answers.Answer.TheVariants as answer
use Rattle.fop_types.specs.declared.answers.AppError.TheVariants.{Eisdir, Efbig, Enodata}
use Rattle.fop_types.specs.declared.cells.Cell.{Cell}
use Rattle.fop_types.specs.declared.cells.Kind.TheVariants as kind
use Rattle.fop_types.specs.declared.contents.Attr.{Attr}
use Rattle.fop_types.specs.declared.contents.Content.{Content}
use Rattle.fop_types.specs.declared.flat.FlatAnswer.TheVariants as flat_answer
use Rattle.fop_types.specs.declared.flat.FlatObject.{FlatObject}
use Rattle.fop_types.specs.declared.flat.FlatObject.TheVariants.{File, Directory}
use Rattle.fop_types.specs.declared.flat.FlatOp.TheVariants as op
use Rattle.fop_types.specs.declared.fops.Fop.TheVariants as fop
use Rattle.fop_types.specs.declared.fops.Object.{Object}
use Rattle.fop_types.specs.declared.jobs.SetReply.TheVariants as reply

-- ---- open

pub open_directory : (s : Volumes) (n : ℕ) (object : Object) → IsDirectory s n object.gfid → flat s.files (op.Open object.gfid) ≡ refused Eisdir
open_directory s n object d = rw d.object_is refl

pub opens_flat : (n : ℕ) (object : Object) (fd : ℕ) → GoesFlat n (fop.Open fd object) [] (opens object fd)
opens_flat n object fd =
    if_flat n (fop.Open fd object) [] _ _ (is_directory object.kind)
    (λ dir none s a m still. open_directory s n object (made_directory s n object a m dir))
    (λ file. number_flat n (fop.Open fd object) [] object.set _ _ tt (λ later number l none s a m still. open_file s (made_file s n object a m file)))
  where
    open_file : (s : Volumes) → IsFile s object.gfid → flat s.files (op.Open object.gfid) ≡ Answers (flat_answer.Call answer.Done)
    open_file s f = rw f.object_is refl

-- ---- stat

pub first_is : (s : Volumes) (set : ℕ) (cell : Cell) (contents : List (Option Content)) → HaveContents false (s.contents set) (cell ∷ []) contents → first_content contents ≡ s.contents set cell
first_is s set cell [] h = absurd h
first_is s set cell (content ∷ contents) h = sym h.0

-- the first set lacks no cell of a directory
first_of_first : (s : Volumes) (object : Object) (contents : List (Option Content)) → is_directory object.kind ≡ true
    → HaveContents (may_lack 0 (is_directory object.kind)) (s.contents 0) (meta_cell object.gfid ∷ []) contents → first_content contents ≡ s.contents 0 (meta_cell object.gfid)
first_of_first s object contents dir h =
    first_is s 0 (meta_cell object.gfid) contents (subst (λ (b : Bool). HaveContents (may_lack 0 b) (s.contents 0) (meta_cell object.gfid ∷ []) contents) dir h)

pub record AreTwo (s : Volumes) (set : ℕ) (a b : Cell) (contents : List (Option Content)) : Type 0 where
  pub one : first_content contents ≡ s.contents set a
  pub two : second_content contents ≡ s.contents set b

pub two_are : (s : Volumes) (set : ℕ) (a b : Cell) (contents : List (Option Content)) → HaveContents false (s.contents set) (a ∷ b ∷ []) contents → AreTwo s set a b contents
two_are s set a b [] h = absurd h
two_are s set a b (one ∷ []) h = absurd h.1
two_are s set a b (one ∷ two ∷ contents) h = record { one = sym h.0; two = sym h.1.0 }

-- a file is read at its home
pub at_home : (s : Volumes) (n : ℕ) (object : Object) (cell : Cell) → IsMade s object → is_directory object.kind ≡ false → s.contents object.set cell ≡ s.contents (s.homes object.gfid) cell
at_home s n object cell m file = ap (λ (set : ℕ). s.contents set cell) (sym (m.home_is (kind_by object.kind m.no_link file)))

pub size_is : (bytes : List ℕ) → length bytes ≤ max_data → size_of bytes ≡ length bytes
size_is bytes few = min-eq_left (omega arith)

pub stat_of_directory : (s : Volumes) (n : ℕ) (object : Object) (contents : List (Option Content)) → IsDirectory s n object.gfid → first_content contents ≡ s.contents 0 (meta_cell object.gfid)
    → flat s.files (op.Stat object.gfid) ≡ Answers (flat_answer.Call (answer.Stat kind.Dir (mode_of (first_content contents)) 0))
stat_of_directory s n object contents d e = rw (d.object_is, e, d.meta_is) refl

pub stat_of_file : (s : Volumes) (object : Object) (contents : List (Option Content)) (f : IsFile s object.gfid) → length f.bytes ≤ max_data
    → first_content contents ≡ s.contents (s.homes object.gfid) (data_cell object.gfid) → second_content contents ≡ s.contents (s.homes object.gfid) (meta_cell object.gfid)
    → flat s.files (op.Stat object.gfid) ≡ Answers (flat_answer.Call (answer.Stat kind.File (mode_of (second_content contents)) (size_of (bytes_of (first_content contents)))))
stat_of_file s object contents f few d e = rw (f.object_is, d, e, f.data_is, f.meta_is, size_is f.bytes few) refl

pub stats_flat : (n : ℕ) (object : Object) → GoesFlat n (fop.Stat object) [] (stats object)
stats_flat n object =
    if_flat n (fop.Stat object) [] _ _ (is_directory object.kind)
    (λ dir. read_flat n (fop.Stat object) [] 0 _ 0 _ _ (λ contents place none s a m still. stat_of_directory s n object contents (made_directory s n object a m dir) (first_of_first s object contents dir still.0)))
    (λ file. read_flat n (fop.Stat object) [] object.set _ 0 _ _
    (λ contents place none s a m still.
    let f = made_file s n object a m file in
    let both = two_are s object.set (data_cell object.gfid) (meta_cell object.gfid) contents still.0 in
    stat_of_file s object contents f (a.few object.gfid f.bytes f.data_is) (both.one ∙ at_home s n object (data_cell object.gfid) m file) (both.two ∙ at_home s n object (meta_cell object.gfid) m file)))

-- ---- getattr and delattr

pub record HasAttrs (s : Volumes) (object : Object) (contents : List (Option Content)) : Type 0 where
  pub it : FlatObject
  pub object_is : object_at s.files object.gfid ≡ Some it
  pub attrs_are : attrs_of (first_content contents) ≡ object_attrs it

pub attrs_by : (s : Volumes) (n : ℕ) (object : Object) (contents : List (Option Content)) → AreSound s n → IsMade s object → (b : Bool) → is_directory object.kind ≡ b
    → HaveContents (may_lack (if b then 0 else object.set) b) (s.contents (if b then 0 else object.set)) (meta_cell object.gfid ∷ []) contents → HasAttrs s object contents
attrs_by s n object contents a m true e h =
    let d = made_directory s n object a m e in
    record { it = Directory _ d.mode d.attrs _; object_is = d.object_is; attrs_are = ap attrs_of (first_is s 0 (meta_cell object.gfid) contents h ∙ d.meta_is) }
attrs_by s n object contents a m false e h =
    let f = made_file s n object a m e in
    record {
      it = File f.bytes f.mode f.attrs;
      object_is = f.object_is;
      attrs_are = ap attrs_of (first_is s object.set (meta_cell object.gfid) contents h ∙ at_home s n object (meta_cell object.gfid) m e ∙ f.meta_is);
    }

pub attrs_read : (s : Volumes) (n : ℕ) (object : Object) (contents : List (Option Content)) → AreSound s n → IsMade s object → HaveContents (may_lack (home object) (is_directory object.kind)) (s.contents (home object)) (meta_cell object.gfid ∷ []) contents → HasAttrs s object contents
attrs_read s n object contents a m h = attrs_by s n object contents a m (is_directory object.kind) refl h

pub get_flat : (s : Volumes) (object : Object) (name : List ℕ) (contents : List (Option Content)) → HasAttrs s object contents → flat s.files (op.GetAttr object.gfid name) ≡ attr_outcome (attr_named (attrs_of (first_content contents)) name)
get_flat s object name contents h = rw (h.object_is, h.attrs_are) refl

pub gets_flat : (n : ℕ) (object : Object) (name : List ℕ) → GoesFlat n (fop.GetAttr object name) [] (gets_attr object name)
gets_flat n object name =
    read_flat n (fop.GetAttr object name) [] (home object) _ 0 _ _ (λ contents place. by_attr contents place (attr_named (attrs_of (first_content contents)) name) refl)
  where
    by_attr : (contents : List (Option Content)) (place : ℕ) (attr : Option Attr) → attr_named (attrs_of (first_content contents)) name ≡ attr
        → GoesFlat n (fop.GetAttr object name) (Replied (home object) (meta_job object) (reply.Contents contents place) ∷ []) (attr_value attr place)
    by_attr contents place None e = λ none s a m still. get_flat s object name contents (attrs_read s n object contents a m still.0) ∙ ap attr_outcome e
    by_attr contents place (Some attr) e = λ none s a m still. get_flat s object name contents (attrs_read s n object contents a m still.0) ∙ ap attr_outcome e

pub del_flat : (s : Volumes) (object : Object) (name : List ℕ) (contents : List (Option Content)) → HasAttrs s object contents → attr_named (attrs_of (first_content contents)) name ≡ None → flat s.files (op.DelAttr object.gfid name) ≡ refused Enodata
del_flat s object name contents h e =
    let gone : attr_named (object_attrs h.it) name ≡ None = subst (λ (attrs : List Attr). attr_named attrs name ≡ None) h.attrs_are e in
    rw (h.object_is, gone) refl

pub del_fits : (s : Volumes) (object : Object) (name : List ℕ) (attr : Attr) (contents : List (Option Content)) → HasAttrs s object contents → attr_named (attrs_of (first_content contents)) name ≡ Some attr → IsAccepted s.files (op.DelAttr object.gfid name)
del_fits s object name attr contents h e =
    let there : attr_named (object_attrs h.it) name ≡ Some attr = subst (λ (attrs : List Attr). attr_named attrs name ≡ Some attr) h.attrs_are e in
    record {
      answer = flat_answer.Call answer.Done;
      after = with_object s.files object.gfid (object_with_attrs h.it (without_attr (object_attrs h.it) name));
      accepted = rw (h.object_is, there) refl;
    }

pub dels_flat : (v : Volume) (object : Object) (name : List ℕ) → GoesFlat v.sets (fop.DelAttr object name) [] (dels_attr v object name)
dels_flat v object name =
    read_flat v.sets (fop.DelAttr object name) [] (home object) _ 0 _ _ (λ contents place. by_attr contents place (attr_named (attrs_of (first_content contents)) name) refl)
  where
    by_attr : (contents : List (Option Content)) (place : ℕ) (attr : Option Attr) → attr_named (attrs_of (first_content contents)) name ≡ attr
        → GoesFlat v.sets (fop.DelAttr object name) (Replied (home object) (meta_job object) (reply.Contents contents place) ∷ []) (drops_attr v object name attr place)
    by_attr contents place None e = λ none s a m still. del_flat s object name contents (attrs_read s v.sets object contents a m still.0) e
    by_attr contents place (Some attr) e =
        change_flat v.sets (fop.DelAttr object name) (Replied (home object) (meta_job object) (reply.Contents contents place) ∷ []) (home object) _ 0 _ _ _
        (λ s a m still. del_fits s object name attr contents (attrs_read s v.sets object contents a m still.0) e)

-- ---- read, write and truncate

abbrev pub none_of : List ℕ
none_of = []

pub bytes_at : (s : Volumes) (object : Object) (contents : List (Option Content)) (offset count : ℕ) (f : IsFile s object.gfid) → first_content contents ≡ s.contents (s.homes object.gfid) (data_cell object.gfid)
    → flat s.files (op.Read object.gfid offset count) ≡ Answers (flat_answer.Call (answer.Bytes (read_from (bytes_of (first_content contents)) offset count)))
bytes_at s object contents offset count f e = rw (f.object_is, e, f.data_is) refl

pub reads_flat : (n : ℕ) (object : Object) (fd offset count : ℕ) → GoesFlat n (fop.Read fd object offset count) [] (reads_bytes object fd offset count)
reads_flat n object fd offset count =
    if_flat n (fop.Read fd object offset count) [] _ _ (is_directory object.kind)
    (λ dir none s a m still. read_directory s (made_directory s n object a m dir))
    (λ file. read_flat n (fop.Read fd object offset count) [] object.set _ fd _ _
    (λ contents place none s a m still.
    bytes_at s object contents offset count (made_file s n object a m file) (first_is s object.set (data_cell object.gfid) contents still.0 ∙ at_home s n object (data_cell object.gfid) m file)))
  where
    read_directory : (s : Volumes) → IsDirectory s n object.gfid → flat s.files (op.Read object.gfid offset count) ≡ refused Eisdir
    read_directory s d = rw d.object_is refl

pub truncates_flat : (v : Volume) (object : Object) (size : ℕ) → GoesFlat v.sets (fop.Truncate object size) [] (truncates v object size)
truncates_flat v object size =
    if_flat v.sets (fop.Truncate object size) [] _ _ (is_directory object.kind)
    (λ dir none s a m still. of_directory s (made_directory s v.sets object a m dir))
    (λ file. if_flat v.sets (fop.Truncate object size) [] _ _ (nat_lt file_limit size)
    (λ big none s a m still. too_big s big (made_file s v.sets object a m file))
    (λ fits. change_flat v.sets (fop.Truncate object size) [] object.set _ 0 _ _ _ (λ s a m still. it_fits s fits (made_file s v.sets object a m file))))
  where
    of_directory : (s : Volumes) → IsDirectory s v.sets object.gfid → flat s.files (op.Truncate object.gfid size) ≡ refused Eisdir
    of_directory s d = rw d.object_is refl

    it_fits : (s : Volumes) → nat_lt file_limit size ≡ false → (f : IsFile s object.gfid) → IsAccepted s.files (op.Truncate object.gfid size)
    it_fits s fits f = record { answer = flat_answer.Call answer.Done; after = with_object s.files object.gfid (File (resized f.bytes size) f.mode f.attrs); accepted = rw (f.object_is, fits) refl }

    too_big : (s : Volumes) → nat_lt file_limit size ≡ true → IsFile s object.gfid → flat s.files (op.Truncate object.gfid size) ≡ refused Efbig
    too_big s big f = rw (f.object_is, big) refl

pub writes_flat : (v : Volume) (object : Object) (fd offset : ℕ) (bytes : List ℕ) → GoesFlat v.sets (fop.Write fd object offset bytes) [] (writes v object fd offset bytes)
writes_flat v object fd offset bytes =
    if_flat v.sets (fop.Write fd object offset bytes) [] _ _ (is_directory object.kind)
    (λ dir none s a m still. of_directory s (made_directory s v.sets object a m dir))
    (λ file. if_flat v.sets (fop.Write fd object offset bytes) [] _ _ (nat_lt file_limit (offset + length bytes))
    (λ big none s a m still. too_big s big (made_file s v.sets object a m file))
    (λ fits. by_bytes bytes file fits))
  where
    of_directory : (s : Volumes) → IsDirectory s v.sets object.gfid → flat s.files (op.Write object.gfid offset bytes) ≡ refused Eisdir
    of_directory s d = rw d.object_is refl

    too_big : (s : Volumes) → nat_lt file_limit (offset + length bytes) ≡ true → IsFile s object.gfid → flat s.files (op.Write object.gfid offset bytes) ≡ refused Efbig
    too_big s big f = rw (f.object_is, big) refl

    no_bytes : (s : Volumes) → nat_lt file_limit (offset + length none_of) ≡ false → IsFile s object.gfid → flat s.files (op.Write object.gfid offset []) ≡ Answers (flat_answer.Call (answer.Count 0))
    no_bytes s fits f = rw (f.object_is, fits) refl

    some_bytes : (s : Volumes) (first : ℕ) (rest : List ℕ) → nat_lt file_limit (offset + length (first ∷ rest)) ≡ false → (f : IsFile s object.gfid) → IsAccepted s.files (op.Write object.gfid offset (first ∷ rest))
    some_bytes s first rest fits f = record {
      answer = flat_answer.Call (answer.Count (length (first ∷ rest)));
      after = with_object s.files object.gfid (File (written f.bytes offset (first ∷ rest)) f.mode f.attrs);
      accepted = rw (f.object_is, fits) refl;
    }

    by_bytes : (all : List ℕ) → is_directory object.kind ≡ false → nat_lt file_limit (offset + length all) ≡ false → GoesFlat v.sets (fop.Write fd object offset all) [] (writes_some v object fd offset all)
    by_bytes [] file fits = λ none s a m still. no_bytes s fits (made_file s v.sets object a m file)
    by_bytes (first ∷ rest) file fits =
        change_flat v.sets (fop.Write fd object offset (first ∷ rest)) [] object.set _ fd _ _ _ (λ s a m still. some_bytes s first rest fits (made_file s v.sets object a m file))

-- ---- mode and attributes

-- an object that was made
pub record IsObjectAt (s : Volumes) (object : Object) : Type 0 where
  pub it : FlatObject
  pub object_is : object_at s.files object.gfid ≡ Some it

pub object_made : (s : Volumes) (n : ℕ) (object : Object) → AreSound s n → IsMade s object → (b : Bool) → is_directory object.kind ≡ b → IsObjectAt s object
object_made s n object a m true e = let d = made_directory s n object a m e in record { it = Directory _ d.mode d.attrs _; object_is = d.object_is }
object_made s n object a m false e = let f = made_file s n object a m e in record { it = File f.bytes f.mode f.attrs; object_is = f.object_is }

pub mode_fits : (s : Volumes) (object : Object) (mode : ℕ) → IsObjectAt s object → IsAccepted s.files (op.Chmod object.gfid mode)
mode_fits s object mode o = record { answer = flat_answer.Call answer.Done; after = with_object s.files object.gfid (object_with_mode o.it mode); accepted = rw o.object_is refl }

pub attr_fits : (s : Volumes) (object : Object) (attr : Attr) → IsObjectAt s object → IsAccepted s.files (op.SetAttr object.gfid attr)
attr_fits s object attr o =
    record { answer = flat_answer.Call answer.Done; after = with_object s.files object.gfid (object_with_attrs o.it (with_attr (object_attrs o.it) attr)); accepted = rw o.object_is refl }
