-- Every fop goes on while no job that it needs failed, and ends by the answer to its own operation.
use Rattle.std.proofs.Common.{◌≡◌, ◌≢◌, ℕ, ◌+◌, ◌==◌, Bool, true, false, List, [], ◌∷◌, Option, Some, None, Result, Ok, Err, length, nat_lt, refl}
use Rattle.std.specs.Prelude.{slice_index_or}
use Rattle.dht_layout.specs.Layouts.{even_span}
use Rattle.dht_linkto.specs.DirNames.{first_content}
use Rattle.dht_linkto.specs.Search.{hashed_set}
use Rattle.dht_linkto.specs.declared.found.Found.TheVariants as found
use Rattle.dht_laws.proofs.Endings.{Stands, Closes, EndsClose, number_clear, fails_by, not_made, says_close, done_close, names_close, read_close, birth_close, change_close, link_close, extends_close, if_close, kept_close, named_close, looks_close, finds_close, on_name_close}
use Rattle.dht_laws.proofs.Traces.{number_error}
use Rattle.dht_fops.specs.Answers.{flat_op, change_of}
use Rattle.dht_fops.specs.Courses.{answers, on_number, number_in}
use Rattle.dht_fops.specs.Courses.Course.{Ends}
use Rattle.dht_laws.specs.Endings.{open_fault, Made, made_of, last_made, IsNotMade, GoesOn, EndsWith, answer_to, IsNoFailure, FopsAnswerChanges}
use Rattle.dht_fops.specs.Entries.{lookup_found, lists_from, births_from, mkdir_found, create_found, drops_link, unlink_found, empties, rmdir_found}
use Rattle.dht_fops.specs.Fops.{renames, fop_course}
use Rattle.dht_fops.specs.Handed.{Handed, Always, AnyHold}
use Rattle.dht_fops.specs.Handed.Event.{Replied}
use Rattle.dht_fops.specs.Internal.{opens_again, heals, indexes, with_cells, cells_in}
use Rattle.dht_fops.specs.Merges.{merged, real_items}
use Rattle.dht_fops.specs.Objects.{home, opened, opens, stats, dir_stat, file_stat, attr_read, attr_seen, bytes_read, attr_value, gets_attr, drops_attr, dels_attr, reads_bytes, changes_cell, truncates, writes_some, writes}
use Rattle.dht_fops.specs.Renames.{adds_link, moves, bears, replaces, changes_names, other_set, target_found, target_ending, looks_for_target, source_at, source_found, second_set}
use Rattle.dht_fops.specs.Volumes.{Kept, known_set, sets_from}
use Rattle.dht_laws.proofs.Arguments.{Renaming, Source}
use Rattle.dht_fops.specs.declared.volume.Volume.{Volume}
use Rattle.fop_types.specs.Cells.{data_cell, meta_cell}
use Rattle.fop_types.specs.FileBytes.{file_limit}
use Rattle.fop_types.specs.Flat.{item_of}
use Rattle.fop_types.specs.Names.{attr_named, has_real_name, is_directory, is_same_name}
use Rattle.fop_types.specs.StoreOps.{attrs_of}
use Rattle.fop_types.specs.declared.answers.Answer.TheVariants as answer
use Rattle.fop_types.specs.declared.answers.FopAnswer.{FopAnswer}
use Rattle.fop_types.specs.declared.answers.FopAnswer.TheVariants as fop_answer
use Rattle.fop_types.specs.declared.answers.IoError.{IoError}
use Rattle.fop_types.specs.declared.cells.Cell.{Cell}
use Rattle.fop_types.specs.declared.cells.Gfid.{Gfid}
use Rattle.fop_types.specs.declared.cells.Kind.TheVariants as kind
use Rattle.fop_types.specs.declared.contents.Attr.{Attr}
use Rattle.fop_types.specs.declared.contents.Item.{Item}
use Rattle.fop_types.specs.declared.flat.FlatOp.TheVariants as flat
use Rattle.fop_types.specs.declared.fops.Fop.{Fop}
use Rattle.fop_types.specs.declared.fops.Fop.TheVariants as fop
use Rattle.fop_types.specs.declared.fops.Object.{Object}
use Rattle.fop_types.specs.declared.fops.OpenFd.{OpenFd}
use Rattle.fop_types.specs.declared.jobs.Job.TheVariants as job
use Rattle.fop_types.specs.declared.jobs.SetReply.{SetReply}
use Rattle.fop_types.specs.declared.store_ops.StoreOp.{StoreOp}
use Rattle.fop_types.specs.declared.store_ops.StoreOp.TheVariants as op

-- ---- fops on an object

-- one change, which is the fop's own operation
cell_close : (f : Fop) (v : Volume) (set : ℕ) (cell : Cell) (fd : ℕ) (o : StoreOp) (a : FopAnswer) → change_of o ≡ flat_op f → a ≡ answer_to set o → IsNoFailure a → Closes f None (changes_cell v set cell fd o a)
cell_close f v set cell fd o a own same n = change_close f None set (cell ∷ []) fd o _ (Ends a) tt (λ number. done_close f set o number a own same n)

opens_close : (object : Object) (fd : ℕ) → Closes (fop.Open fd object) None (opens object fd)
opens_close object fd = if_close (fop.Open fd object) None _ _ (is_directory object.kind) (says_close (fop.Open fd object) _ _ tt) (record { run = λ handed s. ((s.clear, before handed s), λ r. by_number handed s r (number_in r) refl) })
  where
    before : (handed : Handed) → Stands (fop.Open fd object) None handed → IsNotMade (fop.Open fd object) (last_made handed)
    before handed s = not_made (fop.Open fd object) (last_made handed) None s.made_is tt

    by_number : (handed : Handed) → Stands (fop.Open fd object) None handed → (r : SetReply) (read : Result (Option ℕ) IoError) → number_in r ≡ read
        → Always (GoesOn (fop.Open fd object)) AnyHold (EndsWith (fop.Open fd object)) (Replied object.set (job.Open fd object.gfid) r ∷ handed) (on_number opened read)
    by_number handed s r (Ok number) e =
        (says_close (fop.Open fd object) (fop_answer.Call answer.Done) None tt).run (Replied object.set (job.Open fd object.gfid) r ∷ handed) (record { clear = (number_clear r number e, s.clear); made_is = s.made_is })
    by_number handed s r (Err error) e = (s.clear, fails_by (fop.Open fd object) r error (last_made handed) (number_error r error e))

stats_close : (f : Fop) (object : Object) → Closes f None (stats object)
stats_close f object =
    if_close f None _ _ (is_directory object.kind) (read_close f None 0 (meta_cell object.gfid ∷ []) 0 _ dir_stat tt (λ contents place. says_close f _ _ tt))
    (read_close f None object.set (data_cell object.gfid ∷ meta_cell object.gfid ∷ []) 0 false file_stat tt (λ contents place. says_close f _ _ tt))

gets_close : (f : Fop) (object : Object) (name : List ℕ) → Closes f None (gets_attr object name)
gets_close f object name =
    read_close f None (home object) (meta_cell object.gfid ∷ []) 0 _ (attr_read name) tt (λ contents place. by_attr (attr_named (attrs_of (first_content contents)) name) place)
  where
    by_attr : (attr : Option Attr) (place : ℕ) → Closes f None (attr_value attr place)
    by_attr None place = says_close f _ _ tt
    by_attr (Some attr) place = says_close f _ _ tt

dels_close : (f : Fop) (v : Volume) (object : Object) (name : List ℕ) → change_of (op.DelAttr object.gfid name) ≡ flat_op f → Closes f None (dels_attr v object name)
dels_close f v object name own =
    read_close f None (home object) (meta_cell object.gfid ∷ []) 0 _ (attr_seen v object name) tt (λ contents place. by_attr (attr_named (attrs_of (first_content contents)) name) place)
  where
    by_attr : (attr : Option Attr) (place : ℕ) → Closes f None (drops_attr v object name attr place)
    by_attr None place = says_close f _ _ tt
    by_attr (Some attr) place = cell_close f v (home object) _ 0 (op.DelAttr object.gfid name) (fop_answer.Call answer.Done) own refl tt

reads_close : (f : Fop) (object : Object) (fd offset count : ℕ) → Closes f None (reads_bytes object fd offset count)
reads_close f object fd offset count = if_close f None _ _ (is_directory object.kind) (says_close f _ _ tt) (read_close f None object.set (data_cell object.gfid ∷ []) fd false (bytes_read offset count) tt (λ contents place. says_close f _ _ tt))

truncates_close : (f : Fop) (v : Volume) (object : Object) (size : ℕ) → change_of (op.Truncate object.gfid size) ≡ flat_op f → Closes f None (truncates v object size)
truncates_close f v object size own =
    if_close f None _ _ (is_directory object.kind) (says_close f _ _ tt)
    (if_close f None _ _ (nat_lt file_limit size) (says_close f _ _ tt) (cell_close f v object.set _ 0 (op.Truncate object.gfid size) (fop_answer.Call answer.Done) own refl tt))

-- the count of a write is the number of its bytes
bytes_close : (f : Fop) (v : Volume) (object : Object) (fd offset : ℕ) (bytes : List ℕ) → change_of (op.Write object.gfid offset bytes) ≡ flat_op f → Closes f None (writes_some v object fd offset bytes)
bytes_close f v object fd offset [] own = says_close f _ _ tt
bytes_close f v object fd offset (first ∷ rest) own = cell_close f v object.set _ fd (op.Write object.gfid offset (first ∷ rest)) (fop_answer.Call (answer.Count (length (first ∷ rest)))) own refl tt

writes_close : (f : Fop) (v : Volume) (object : Object) (fd offset : ℕ) (bytes : List ℕ) → change_of (op.Write object.gfid offset bytes) ≡ flat_op f → Closes f None (writes v object fd offset bytes)
writes_close f v object fd offset bytes own =
    if_close f None _ _ (is_directory object.kind) (says_close f _ _ tt) (if_close f None _ _ (nat_lt file_limit (offset + length bytes)) (says_close f _ _ tt) (bytes_close f v object fd offset bytes own))

-- ---- names of a directory

lookup_close : (f : Fop) → EndsClose f lookup_found
lookup_close f (found.Item set gfid kind) seen read = says_close f _ _ tt
lookup_close f found.Absent seen read = says_close f _ _ tt
lookup_close f (found.Io error) seen read = absurd read

lists_close : (f : Fop) (dir : Gfid) (sets : List ℕ) (names : List Item) (place : Option ℕ) → Closes f None (lists_from dir sets names place)
lists_close f dir [] names place = says_close f _ _ tt
lists_close f dir (set ∷ sets) names place = names_close f None set dir _ tt (λ shown. kept_close f shown _ (lists_close f dir sets (merged names (real_items shown.items)) (Some shown.place)))

births_close : (f : Fop) (v : Volume) (parent : Gfid) (name : List ℕ) (mode : ℕ) (drawn : Gfid) (sets : List ℕ) → change_of (op.AddName parent (item_of name drawn kind.Dir) mode (Some (even_span v.sets 0))) ≡ flat_op f → Closes f None (births_from v parent name mode drawn sets)
births_close f v parent name mode drawn [] own =
    change_close f None 0 _ 0 (op.AddName parent (item_of name drawn kind.Dir) mode (Some (even_span v.sets 0))) _ _ tt
    (λ number. done_close f 0 (op.AddName parent (item_of name drawn kind.Dir) mode (Some (even_span v.sets 0))) number (fop_answer.Call answer.Done) own refl tt)
births_close f v parent name mode drawn (set ∷ sets) own = birth_close f None set drawn (Some (even_span v.sets set)) _ tt (λ number. births_close f v parent name mode drawn sets own)

mkdir_close : (f : Fop) (v : Volume) (parent : Gfid) (name : List ℕ) (mode : ℕ) (drawn : Gfid) → change_of (op.AddName parent (item_of name drawn kind.Dir) mode (Some (even_span v.sets 0))) ≡ flat_op f → EndsClose f (mkdir_found v parent name mode drawn)
mkdir_close f v parent name mode drawn own (found.Item set gfid kind) seen read = says_close f _ _ tt
mkdir_close f v parent name mode drawn own found.Absent seen read = births_close f v parent name mode drawn (sets_from v 1) own
mkdir_close f v parent name mode drawn own (found.Io error) seen read = absurd read

create_close : (f : Fop) (v : Volume) (parent : Gfid) (name : List ℕ) (mode : ℕ) (drawn : Gfid) (hashed : ℕ) → change_of (op.AddName parent (item_of name drawn kind.File) mode None) ≡ flat_op f → EndsClose f (create_found v parent name mode drawn hashed)
create_close f v parent name mode drawn hashed own (found.Item set gfid k) seen read = says_close f _ _ tt
create_close f v parent name mode drawn hashed own found.Absent seen read =
    change_close f None hashed _ 0 (op.AddName parent (item_of name drawn kind.File) mode None) _ _ tt
    (λ number. done_close f hashed (op.AddName parent (item_of name drawn kind.File) mode None) number (fop_answer.Found hashed drawn kind.File) own refl tt)
create_close f v parent name mode drawn hashed own (found.Io error) seen read = absurd read

-- the link that is left is dropped after the fop's own operation, which is answered
drops_link_close : (f : Fop) (parent : Gfid) (name : List ℕ) (hashed : ℕ) (has_link : Bool) (set : ℕ) (o : StoreOp) (number : Option ℕ) → change_of o ≡ flat_op f → fop_answer.Call answer.Done ≡ answer_to set o
    → Closes f (Some (made_of set o number)) (drops_link parent name hashed has_link number)
drops_link_close f parent name hashed true set o number own same =
    link_close f (Some (made_of set o number)) hashed _ 0 _ (answers answer.Done number) own (done_close f set o number (fop_answer.Call answer.Done) own same tt)
drops_link_close f parent name hashed false set o number own same = done_close f set o number (fop_answer.Call answer.Done) own same tt

unlink_close : (f : Fop) (v : Volume) (parent : Gfid) (name : List ℕ) (hashed : ℕ) → change_of (op.DropName parent name) ≡ flat_op f → EndsClose f (unlink_found v parent name hashed)
unlink_close f v parent name hashed own (found.Item set gfid k) seen read =
    if_close f None _ _ (is_directory k) (says_close f _ _ tt)
    (change_close f None set _ 0 (op.DropName parent name) _ (drops_link parent name hashed seen.has_link) tt (λ number. drops_link_close f parent name hashed seen.has_link set (op.DropName parent name) number own refl))
unlink_close f v parent name hashed own found.Absent seen read = says_close f _ _ tt
unlink_close f v parent name hashed own (found.Io error) seen read = absurd read

empties_close : (f : Fop) (v : Volume) (parent : Gfid) (name : List ℕ) (gfid : Gfid) (sets : List ℕ) → change_of (op.DropDir parent name gfid) ≡ flat_op f → Closes f None (empties v parent name gfid sets)
empties_close f v parent name gfid [] own =
    change_close f None 0 _ 0 (op.DropDir parent name gfid) _ _ tt (λ number. done_close f 0 (op.DropDir parent name gfid) number (fop_answer.Call answer.Done) own refl tt)
empties_close f v parent name gfid (set ∷ sets) own = names_close f None set gfid _ tt (λ shown. if_close f None _ _ (has_real_name shown.items) (says_close f _ _ tt) (empties_close f v parent name gfid sets own))

rmdir_close : (f : Fop) (v : Volume) (parent : Gfid) (name : List ℕ) → ((gfid : Gfid) → change_of (op.DropDir parent name gfid) ≡ flat_op f) → EndsClose f (rmdir_found v parent name)
rmdir_close f v parent name own (found.Item set gfid k) seen read =
    if_close f None _ _ (is_directory k) (extends_close f None gfid _ (empties_close f v parent name gfid (sets_from v 0) (own gfid))) (says_close f _ _ tt)
rmdir_close f v parent name own found.Absent seen read = says_close f _ _ tt
rmdir_close f v parent name own (found.Io error) seen read = absurd read

-- ---- rename

-- the move is the fop's own operation, and the drop of the new name is not
pub record IsRenameOf (f : Fop) (parent : Gfid) (name : List ℕ) (target : Gfid) (new_name : List ℕ) : Type 0 where
  pub own : change_of (op.Move parent name target new_name) ≡ flat_op f
  pub other : change_of (op.DropName target new_name) ≢ flat_op f

-- the move that is made
abbrev move_of : Renaming → StoreOp
move_of r = op.Move r.source.parent r.source.name r.target r.new_name

abbrev IsRename : Fop → Renaming → Type 0
IsRename f r = IsRenameOf f r.source.parent r.source.name r.target r.new_name

adds_link_close : (f : Fop) (r : Renaming) (number : Option ℕ) → IsRename f r → Closes f (Some (made_of r.source.set (move_of r) number)) (adds_link r number)
adds_link_close f r number is =
    if_close f (Some (made_of r.source.set (move_of r) number)) _ _ (r.hashed == r.source.set)
    (drops_link_close f r.source.parent r.source.name r.source.hashed r.source.has_link r.source.set (move_of r) number is.own refl)
    (link_close f (Some (made_of r.source.set (move_of r) number)) r.hashed _ 0 _ _ is.own (drops_link_close f r.source.parent r.source.name r.source.hashed r.source.has_link r.source.set (move_of r) number is.own refl))

moves_close : (f : Fop) (v : Volume) (r : Renaming) (made : Option Made) → IsRename f r → IsNotMade f made → Closes f made (moves v r)
moves_close f v r made is before = change_close f made r.source.set _ 0 (move_of r) _ (adds_link r) before (λ number. adds_link_close f r number is)

bears_close : (f : Fop) (v : Volume) (r : Renaming) (copy : Bool) (made : Option Made) → IsRename f r → IsNotMade f made → Closes f made (bears v r copy)
bears_close f v r true made is before = moves_close f v r made is before
bears_close f v r false made is before = birth_close f made r.source.set r.target None _ before (λ number. moves_close f v r made is before)

replaces_close : (f : Fop) (v : Volume) (r : Renaming) (replaced : Option ℕ) (copy : Bool) → IsRename f r → Closes f None (replaces v r replaced copy)
replaces_close f v r None copy is = bears_close f v r copy None is tt
replaces_close f v r (Some set) copy is =
    change_close f None set _ 0 (op.DropName r.target r.new_name) _ (λ number. bears v r copy) tt (λ number. bears_close f v r copy (Some (made_of set (op.DropName r.target r.new_name) number)) is is.other)

changes_close : (f : Fop) (v : Volume) (r : Renaming) (replaced : Option ℕ) (copy : Option Bool) → IsRename f r → Closes f None (changes_names v r replaced copy)
changes_close f v r replaced (Some copy) is = replaces_close f v r replaced copy is
changes_close f v r replaced None is = names_close f None r.source.set r.target _ tt (λ shown. replaces_close f v r replaced shown.has_copy is)

target_close : (f : Fop) (v : Volume) (r : Renaming) → IsRename f r → EndsClose f (target_found v r)
target_close f v r is (found.Item set gfid k) seen read = if_close f None _ _ (is_directory k) (says_close f _ _ tt) (changes_close f v r (other_set set r.source.set) seen.copy is)
target_close f v r is found.Absent seen read = changes_close f v r None seen.copy is
target_close f v r is (found.Io error) seen read = absurd read

target_ends_close : (f : Fop) (v : Volume) (source : Source) (target : Gfid) (new_name : List ℕ) (names : List (List ℕ)) (hashed : ℕ) → IsRenameOf f source.parent source.name target new_name → EndsClose f (target_ending v source target new_name names hashed)
target_ends_close f v source target new_name names hashed is =
    target_close f v (record { source = source; target = target; new_name = new_name; hashed = hashed; set_name = slice_index_or names source.set [] }) is

looks_for_target_close : (f : Fop) (v : Volume) (source : Source) (target : Gfid) (new_name : List ℕ) (names : List (List ℕ)) (second : Option ℕ) → IsRenameOf f source.parent source.name target new_name
    → Closes f None (looks_for_target v source target new_name names second)
looks_for_target_close f v source target new_name names second is =
    finds_close f (length names) target second _ _
    (λ set. looks_close f target new_name names source.set (target_ending v source target new_name names) set (target_ends_close f v source target new_name names set is))
    (λ whole. looks_close f target new_name names source.set (target_ending v source target new_name names) (hashed_set whole new_name) (target_ends_close f v source target new_name names (hashed_set whole new_name) is))

source_close : (f : Fop) (v : Volume) (parent : Gfid) (name : List ℕ) (names : List (List ℕ)) (target : Object) (new_name : List ℕ) (second : Option ℕ) (hashed : ℕ) → IsRenameOf f parent name target.gfid new_name
    → EndsClose f (source_found v parent name names target new_name second hashed)
source_close f v parent name names target new_name second hashed is (found.Item set gfid k) seen read =
    if_close f None _ _ (is_directory k) (says_close f _ _ tt)
    (named_close f target new_name (Some seen.place) _
    (if_close f None _ _ (is_same_name parent name target.gfid new_name) (says_close f _ _ tt) (looks_for_target_close f v (source_at parent name hashed seen.has_link set gfid) target.gfid new_name names second is)))
source_close f v parent name names target new_name second hashed is found.Absent seen read = says_close f _ _ tt
source_close f v parent name names target new_name second hashed is (found.Io error) seen read = absurd read

renames_close : (f : Fop) (v : Volume) (names : List (List ℕ)) (kept : Kept) (parent : Object) (name : List ℕ) (target : Object) (new_name : List ℕ) → IsRenameOf f parent.gfid name target.gfid new_name
    → Closes f None (renames v names kept parent name target new_name)
renames_close f v names kept parent name target new_name is =
    named_close f parent name None _
    (finds_close f (length names) parent.gfid (known_set v kept parent.gfid name) _ _
    (λ set. looks_close f parent.gfid name names 0 (source_found v parent.gfid name names target new_name (known_set v kept target.gfid new_name)) set (source_close f v parent.gfid name names target new_name (known_set v kept target.gfid new_name) set is))
    (λ whole. looks_close f parent.gfid name names 0 (source_found v parent.gfid name names target new_name (second_set parent.gfid target.gfid new_name (known_set v kept target.gfid new_name) whole)) (hashed_set whole name)
    (source_close f v parent.gfid name names target new_name (second_set parent.gfid target.gfid new_name (known_set v kept target.gfid new_name) whole) (hashed_set whole name) is)))

-- an unlink is no rename
unlink_is_other : (parent : Gfid) (name : List ℕ) (target : Gfid) (new_name : List ℕ) → Some (flat.Unlink target new_name) ≢ Some (flat.Rename parent name target new_name)
unlink_is_other parent name target new_name = λ e. (let wrong : flat.Unlink target new_name ≡ flat.Rename parent name target new_name = cc in absurd cc)

-- ---- fops of the mount itself

-- a fop that opens no descriptor of its own needs no open
abbrev pub NeedsNoOpen : Fop → Type 0
NeedsNoOpen f = (said : SetReply) → open_fault f said ≡ None

opens_again_close : (f : Fop) (fds : List OpenFd) → NeedsNoOpen f → Closes f None (opens_again fds)
opens_again_close f [] free = says_close f _ _ tt
opens_again_close f (one ∷ fds) free = record {
  run = λ handed s. (
    (s.clear, not_made f (last_made handed) None s.made_is tt),
    λ r. (opens_again_close f fds free).run (Replied one.set (job.Open one.fd one.gfid) r ∷ handed) (record { clear = (free r, s.clear); made_is = s.made_is }),
  );
}

heals_close : (f : Fop) (cells : List (ℕ × Cell)) → Closes f None (heals cells)
heals_close f [] = says_close f _ _ tt
heals_close f (one ∷ cells) = record {
  run = λ handed s. (
    (s.clear, not_made f (last_made handed) None s.made_is tt),
    λ r. (heals_close f cells).run (Replied one.0 (job.Heal one.1) r ∷ handed) (record { clear = (refl, s.clear); made_is = s.made_is }),
  );
}

indexes_close : (f : Fop) (count : ℕ) (sets : List ℕ) (cells : List (ℕ × Cell)) → Closes f None (indexes count sets cells)
indexes_close f count [] cells = heals_close f cells
indexes_close f count (set ∷ sets) cells = record {
  run = λ handed s. (
    (s.clear, not_made f (last_made handed) None s.made_is tt),
    λ r. (indexes_close f count sets (with_cells cells count set (cells_in r))).run (Replied set job.Index r ∷ handed) (record { clear = (refl, s.clear); made_is = s.made_is }),
  );
}

-- ---- all

closes : (v : Volume) (names : List (List ℕ)) (kept : Kept) (f : Fop) → Closes f None (fop_course v names kept f)
closes v names kept (fop.Lookup parent name) = on_name_close (fop.Lookup parent name) v names kept parent name _ (λ hashed. lookup_close (fop.Lookup parent name))
closes v names kept (fop.Mkdir parent name mode drawn) = on_name_close (fop.Mkdir parent name mode drawn) v names kept parent name _ (λ hashed. mkdir_close (fop.Mkdir parent name mode drawn) v parent.gfid name mode drawn refl)
closes v names kept (fop.Rmdir parent name) = on_name_close (fop.Rmdir parent name) v names kept parent name _ (λ hashed. rmdir_close (fop.Rmdir parent name) v parent.gfid name (λ gfid. refl))
closes v names kept (fop.Create fd parent name mode drawn) = on_name_close (fop.Create fd parent name mode drawn) v names kept parent name _ (λ hashed. create_close (fop.Create fd parent name mode drawn) v parent.gfid name mode drawn hashed refl)
closes v names kept (fop.Unlink parent name) = on_name_close (fop.Unlink parent name) v names kept parent name _ (λ hashed. unlink_close (fop.Unlink parent name) v parent.gfid name hashed refl)
closes v names kept (fop.Rename parent name target new_name) =
    renames_close (fop.Rename parent name target new_name) v names kept parent name target new_name (record { own = refl; other = unlink_is_other parent.gfid name target.gfid new_name })
closes v names kept (fop.Open fd object) = opens_close object fd
closes v names kept (fop.Stat object) = stats_close (fop.Stat object) object
closes v names kept (fop.List object) = if_close (fop.List object) None _ _ (is_directory object.kind) (lists_close (fop.List object) object.gfid (sets_from v 0) [] None) (says_close (fop.List object) _ _ tt)
closes v names kept (fop.Chmod object mode) = cell_close (fop.Chmod object mode) v (home object) _ 0 (op.SetMode object.gfid mode) (fop_answer.Call answer.Done) refl refl tt
closes v names kept (fop.Truncate object size) = truncates_close (fop.Truncate object size) v object size refl
closes v names kept (fop.SetAttr object attr) = cell_close (fop.SetAttr object attr) v (home object) _ 0 (op.SetAttr object.gfid attr) (fop_answer.Call answer.Done) refl refl tt
closes v names kept (fop.GetAttr object name) = gets_close (fop.GetAttr object name) object name
closes v names kept (fop.DelAttr object name) = dels_close (fop.DelAttr object name) v object name refl
closes v names kept (fop.Read fd object offset count) = reads_close (fop.Read fd object offset count) object fd offset count
closes v names kept (fop.Write fd object offset bytes) = writes_close (fop.Write fd object offset bytes) v object fd offset bytes refl
closes v names kept (fop.Migrate fds) = opens_again_close (fop.Migrate fds) fds (λ said. refl)
closes v names kept (fop.Heal count) = indexes_close (fop.Heal count) count (sets_from v 0) []

pub fops_answer : FopsAnswerChanges
fops_answer = λ v names kept f. (closes v names kept f).run [] (record { clear = tt; made_is = refl })
