-- A rename: both names are looked for, and the copy on the file's set is read, before the first change. A file of the new
-- name on another set is unlinked first, which is part 1 of the call; then the new parent's copy is born on the file's set,
-- if that set lacks one; the move, which is part 2, is made on the file's set; at the end a link is added where the new
-- name belongs to another set, and the old name's link is dropped. (POSIX.1-2017: rename. The order of the steps is ours.)
use Rattle.std.specs.Prelude.{ℕ, ◌==◌, Bool, true, false, List, [], ◌∷◌, Option, Some, None, length, slice_index_or, if◌then◌else◌}
use Rattle.std.specs.Ordering.{is_eq}
use Rattle.dht_linkto.specs.DirNames.{names_job}
use Rattle.dht_linkto.specs.Search.{hashed_set}
use Rattle.dht_linkto.specs.declared.found.Found.{Found}
use Rattle.dht_linkto.specs.declared.found.Found.TheVariants as found
use Rattle.dht_fops.specs.Courses.{Course, answers, refuses, fails, after_names, after_change, after_any, changes}
use Rattle.dht_fops.specs.Courses.Course.{Asks}
use Rattle.dht_fops.specs.Entries.{birth_job, drops_link}
use Rattle.dht_fops.specs.Looks.{Ending, where_named, finds, looks_in}
use Rattle.dht_fops.specs.declared.look.Seen.{Seen}
use Rattle.dht_fops.specs.Volumes.{entry}
use Rattle.dht_fops.specs.declared.rename.Renaming.{Renaming}
use Rattle.dht_fops.specs.declared.rename.Source.{Source}
use Rattle.dht_fops.specs.declared.volume.Volume.{Volume}
use Rattle.fop_types.specs.Cells.{names_cell}
use Rattle.fop_types.specs.Names.{is_directory, is_same_name}
use Rattle.fop_types.specs.Orders.{gfid_cmp}
use Rattle.fop_types.specs.StoreOps.{both_names}
use Rattle.fop_types.specs.declared.answers.Answer.TheVariants as answer
use Rattle.fop_types.specs.declared.answers.AppError.TheVariants.{Enoent, Eisdir, Eopnotsupp}
use Rattle.fop_types.specs.declared.cells.Gfid.{Gfid}
use Rattle.fop_types.specs.declared.cells.Kind.TheVariants as kind
use Rattle.fop_types.specs.declared.contents.Item.{Item}
use Rattle.fop_types.specs.declared.contents.Span.{Span}
use Rattle.fop_types.specs.declared.fops.Object.{Object}
use Rattle.fop_types.specs.declared.jobs.Job.TheVariants as job
use Rattle.fop_types.specs.declared.store_ops.StoreOp.TheVariants as op

-- a link of the new name, which names the file's set
abbrev pub link_of : Renaming → Item
link_of r = record { name = r.new_name; gfid = r.source.gfid; kind = kind.Link; target = r.set_name }

-- ---- the changes

abbrev pub drops_old_link : Source → Option ℕ → Course
drops_old_link source number = drops_link source.parent source.name source.hashed source.has_link number

abbrev pub adds_link : Renaming → Option ℕ → Course
adds_link r number =
    if r.hashed == r.source.set then drops_old_link r.source number
    else Asks r.hashed (job.Change (names_cell r.target ∷ []) 0 (op.AddName r.target (link_of r) 0 None) None)
    (after_any (drops_old_link r.source number))

abbrev pub moves : Volume → Renaming → Course
moves v r =
    changes r.source.set (both_names r.source.parent r.target) 0 (op.Move r.source.parent r.source.name r.target r.new_name) (Some (entry v 2))
    (adds_link r)

-- whether the file's set has a copy of the new parent
abbrev pub bears : Volume → Renaming → Bool → Course
bears v r true = moves v r
bears v r false = Asks r.source.set (birth_job r.target None) (after_change (λ number. moves v r))

-- a file of the new name on another set is unlinked
abbrev pub replaces : Volume → Renaming → Option ℕ → Bool → Course
replaces v r None copy = bears v r copy
replaces v r (Some set) copy =
    changes set (names_cell r.target ∷ []) 0 (op.DropName r.target r.new_name) (Some (entry v 1)) (λ number. bears v r copy)

-- where the look did not reach the file's set, that set is read
abbrev pub changes_names : Volume → Renaming → Option ℕ → Option Bool → Course
changes_names v r replaced (Some copy) = replaces v r replaced copy
changes_names v r replaced None =
    Asks r.source.set (names_job r.target) (after_names (λ shown. replaces v r replaced shown.has_copy))

-- ---- the look at the new name

abbrev pub other_set : ℕ → ℕ → Option ℕ
other_set set source = if set == source then None else Some set

abbrev pub target_found : Volume → Renaming → Found → Seen → Course
target_found v r (found.Item set gfid kind) seen =
    if is_directory kind then refuses Eisdir (Some seen.place) else changes_names v r (other_set set r.source.set) seen.copy
target_found v r found.Absent seen = changes_names v r None seen.copy
target_found v r (found.Io error) seen = fails error

abbrev pub target_ending : Volume → Source → Gfid → List ℕ → List (List ℕ) → ℕ → Ending
target_ending v source target new_name names hashed =
    target_found v (record { source = source; target = target; new_name = new_name; hashed = hashed; set_name = slice_index_or names source.set [] })

abbrev pub looks_for_target : Volume → Source → Gfid → List ℕ → List (List ℕ) → Option ℕ → Course
looks_for_target v source target new_name names second =
    finds (length names) target second
    (looks_in target new_name names source.set (target_ending v source target new_name names))
    (λ spans. looks_in target new_name names source.set (target_ending v source target new_name names) (hashed_set spans new_name))

-- ---- the look at the first name

-- a name is not renamed to itself; `second` is the set to which the new name belongs, where it is known
abbrev pub renames_file : Volume → Source → Object → List ℕ → List (List ℕ) → Option ℕ → ℕ → Course
renames_file v source target new_name names second place =
    where_named target new_name (Some place)
    (if is_same_name source.parent source.name target.gfid new_name then answers answer.Done (Some place)
    else looks_for_target v source target.gfid new_name names second)

abbrev pub source_at : Gfid → List ℕ → ℕ → Bool → ℕ → Gfid → Source
source_at parent name hashed has_link set gfid =
    record { parent = parent; name = name; hashed = hashed; has_link = has_link; set = set; gfid = gfid }

abbrev pub source_found : Volume → Gfid → List ℕ → List (List ℕ) → Object → List ℕ → Option ℕ → ℕ → Found → Seen → Course
source_found v parent name names target new_name second hashed (found.Item set gfid kind) seen =
    if is_directory kind then refuses Eopnotsupp (Some seen.place)
    else renames_file v (source_at parent name hashed seen.has_link set gfid) target new_name names second seen.place
source_found v parent name names target new_name second hashed found.Absent seen = refuses Enoent (Some seen.place)
source_found v parent name names target new_name second hashed (found.Io error) seen = fails error

-- the set to which the new name belongs, once the layout of the first name's directory was read
abbrev pub second_set : Gfid → Gfid → List ℕ → Option ℕ → List (Option Span) → Option ℕ
second_set parent target new_name second spans =
    if is_eq (gfid_cmp parent target) then Some (hashed_set spans new_name) else second

abbrev pub renames_from : Volume → List (List ℕ) → Gfid → List ℕ → Object → List ℕ → Option ℕ → Option ℕ → Course
renames_from v names parent name target new_name first second =
    finds (length names) parent first
    (looks_in parent name names 0 (source_found v parent name names target new_name second))
    (λ spans. looks_in parent name names 0 (source_found v parent name names target new_name (second_set parent target.gfid new_name second spans)) (hashed_set spans name))
