-- The fops on an object that is at hand. A directory's metadata is that of the first set; a file is on its own set.
-- (POSIX.1-2017: stat, open, pread, pwrite, ftruncate, chmod; Linux: getxattr, setxattr, removexattr.)
use Rattle.std.specs.Prelude.{ℕ, ◌+◌, false, List, [], ◌∷◌, Option, Some, None, length, min, nat_lt, if◌then◌else◌}
use Rattle.dht_linkto.specs.DirNames.{first_content}
use Rattle.dht_fops.specs.Courses.{Course, answers, refuses, after_read, after_change, changes}
use Rattle.dht_fops.specs.Courses.Course.{Asks, Ends}
use Rattle.dht_fops.specs.Volumes.{entry}
use Rattle.dht_fops.specs.declared.volume.Volume.{Volume}
use Rattle.fop_types.specs.Cells.{data_cell, meta_cell}
use Rattle.fop_types.specs.FileBytes.{file_limit, read_from}
use Rattle.fop_types.specs.Limits.{max_unit}
use Rattle.fop_types.specs.Names.{attr_named, is_directory}
use Rattle.fop_types.specs.StoreOps.{attrs_of}
use Rattle.fop_types.specs.declared.answers.Answer.TheVariants as answer
use Rattle.fop_types.specs.declared.answers.AppError.TheVariants.{Eisdir, Efbig, Enodata}
use Rattle.fop_types.specs.declared.answers.FopAnswer.{FopAnswer}
use Rattle.fop_types.specs.declared.answers.FopAnswer.TheVariants.{Call}
use Rattle.fop_types.specs.declared.cells.Cell.{Cell}
use Rattle.fop_types.specs.declared.cells.Gfid.{Gfid}
use Rattle.fop_types.specs.declared.cells.Kind.TheVariants as kind
use Rattle.fop_types.specs.declared.contents.Attr.{Attr}
use Rattle.fop_types.specs.declared.contents.Content.{Content}
use Rattle.fop_types.specs.declared.contents.Content.TheVariants.{Bytes, Meta, Names}
use Rattle.fop_types.specs.declared.fops.Object.{Object}
use Rattle.fop_types.specs.declared.jobs.Job.{Job}
use Rattle.fop_types.specs.declared.jobs.Job.TheVariants as job
use Rattle.fop_types.specs.declared.store_ops.StoreOp.{StoreOp}
use Rattle.fop_types.specs.declared.store_ops.StoreOp.TheVariants as op

-- ---- contents

abbrev pub bytes_of : Option Content → List ℕ
bytes_of None = []
bytes_of (Some (Bytes bytes)) = bytes
bytes_of (Some (Meta mode attrs span)) = []
bytes_of (Some (Names removed items)) = []

abbrev pub mode_of : Option Content → ℕ
mode_of None = 0
mode_of (Some (Bytes bytes)) = 0
mode_of (Some (Meta mode attrs span)) = mode
mode_of (Some (Names removed items)) = 0

abbrev pub second_content : List (Option Content) → Option Content
second_content [] = None
second_content (first ∷ contents) = first_content contents

-- ---- where an object is, and what is read of it

-- the set of an object's metadata
abbrev pub home : Object → ℕ
home object = if is_directory object.kind then 0 else object.set

abbrev pub meta_job : Object → Job
meta_job object = job.Read (meta_cell object.gfid ∷ []) 0 (is_directory object.kind)

abbrev pub both_job : Gfid → Job
both_job gfid = job.Read (data_cell gfid ∷ meta_cell gfid ∷ []) 0 false

-- ---- reading fops

-- to open needs no lock
abbrev pub opened : Option ℕ → Course
opened number = answers answer.Done None

abbrev pub opens : Object → ℕ → Course
opens object fd =
    if is_directory object.kind then refuses Eisdir None
    else Asks object.set (job.Open fd object.gfid) (after_change opened)

abbrev pub dir_stat : List (Option Content) → ℕ → Course
dir_stat contents place = answers (answer.Stat kind.Dir (mode_of (first_content contents)) 0) (Some place)

-- a file's size is its number of bytes, which is at most 65,536
abbrev pub size_of : List ℕ → ℕ
size_of bytes = min (length bytes) max_unit

abbrev pub file_stat : List (Option Content) → ℕ → Course
file_stat contents place =
    answers (answer.Stat kind.File (mode_of (second_content contents)) (size_of (bytes_of (first_content contents)))) (Some place)

abbrev pub stats : Object → Course
stats object =
    if is_directory object.kind then Asks 0 (meta_job object) (after_read dir_stat)
    else Asks object.set (both_job object.gfid) (after_read file_stat)

abbrev pub attr_value : Option Attr → ℕ → Course
attr_value None place = refuses Enodata (Some place)
attr_value (Some attr) place = answers (answer.Bytes attr.value) (Some place)

abbrev pub attr_read : List ℕ → List (Option Content) → ℕ → Course
attr_read name contents place = attr_value (attr_named (attrs_of (first_content contents)) name) place

abbrev pub gets_attr : Object → List ℕ → Course
gets_attr object name = Asks (home object) (meta_job object) (after_read (attr_read name))

abbrev pub bytes_read : ℕ → ℕ → List (Option Content) → ℕ → Course
bytes_read offset count contents place = answers (answer.Bytes (read_from (bytes_of (first_content contents)) offset count)) (Some place)

abbrev pub reads_bytes : Object → ℕ → ℕ → ℕ → Course
reads_bytes object fd offset count =
    if is_directory object.kind then refuses Eisdir None
    else Asks object.set (job.Read (data_cell object.gfid ∷ []) fd false) (after_read (bytes_read offset count))

-- ---- changes of one object

-- one change of one cell, answered at its entry
abbrev pub changes_cell : Volume → ℕ → Cell → ℕ → StoreOp → FopAnswer → Course
changes_cell v set cell fd op answer = changes set (cell ∷ []) fd op (Some (entry v 1)) (Ends answer)

abbrev pub changes_meta : Volume → Object → StoreOp → Course
changes_meta v object op = changes_cell v (home object) (meta_cell object.gfid) 0 op (Call answer.Done)

abbrev pub sets_mode : Volume → Object → ℕ → Course
sets_mode v object mode = changes_meta v object (op.SetMode object.gfid mode)

abbrev pub sets_attr : Volume → Object → Attr → Course
sets_attr v object attr = changes_meta v object (op.SetAttr object.gfid attr)

-- an attribute is dropped where it was read
abbrev pub drops_attr : Volume → Object → List ℕ → Option Attr → ℕ → Course
drops_attr v object name None place = refuses Enodata (Some place)
drops_attr v object name (Some attr) place = changes_meta v object (op.DelAttr object.gfid name)

abbrev pub attr_seen : Volume → Object → List ℕ → List (Option Content) → ℕ → Course
attr_seen v object name contents place = drops_attr v object name (attr_named (attrs_of (first_content contents)) name) place

abbrev pub dels_attr : Volume → Object → List ℕ → Course
dels_attr v object name = Asks (home object) (meta_job object) (after_read (attr_seen v object name))

abbrev pub truncates : Volume → Object → ℕ → Course
truncates v object size =
    if is_directory object.kind then refuses Eisdir None
    else (if nat_lt file_limit size then refuses Efbig None
    else changes_cell v object.set (data_cell object.gfid) 0 (op.Truncate object.gfid size) (Call answer.Done))

-- a write of no bytes is no change
abbrev pub writes_some : Volume → Object → ℕ → ℕ → List ℕ → Course
writes_some v object fd offset [] = answers (answer.Count 0) None
writes_some v object fd offset (first ∷ rest) =
    changes_cell v object.set (data_cell object.gfid) fd (op.Write object.gfid offset (first ∷ rest))
    (Call (answer.Count (length (first ∷ rest))))

abbrev pub writes : Volume → Object → ℕ → ℕ → List ℕ → Course
writes v object fd offset bytes =
    if is_directory object.kind then refuses Eisdir None
    else (if nat_lt file_limit (offset + length bytes) then refuses Efbig None
    else writes_some v object fd offset bytes)
