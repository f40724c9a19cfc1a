-- The fops on a name of a directory, by what the look at the name found; and the listing of a directory. A directory's
-- name is on the first set, and a new file's on the set to which the name belongs. Changes of links have no effect on
-- the file system, and an I/O error in one changes no answer. (POSIX.1-2017: mkdir, rmdir, open with O_CREAT, unlink,
-- readdir.)
use Rattle.std.specs.Prelude.{ℕ, Bool, List, [], ◌∷◌, Option, Some, None, if◌then◌else◌}
use Rattle.dht_layout.specs.Layouts.{even_span}
use Rattle.dht_linkto.specs.DirNames.{names_job}
use Rattle.dht_linkto.specs.declared.found.Found.{Found}
use Rattle.dht_linkto.specs.declared.found.Found.TheVariants as found
use Rattle.dht_fops.specs.Courses.{Course, answers, refuses, fails, after_names, after_change, after_any, changes}
use Rattle.dht_fops.specs.Courses.Course.{Asks, Extends, Ends}
use Rattle.dht_fops.specs.Looks.{where_kept}
use Rattle.dht_fops.specs.Merges.{merged, real_items}
use Rattle.dht_fops.specs.Volumes.{entry, sets_from}
use Rattle.dht_fops.specs.declared.look.Seen.{Seen}
use Rattle.dht_fops.specs.declared.volume.Volume.{Volume}
use Rattle.fop_types.specs.Cells.{meta_cell, names_cell}
use Rattle.fop_types.specs.Flat.{item_of}
use Rattle.fop_types.specs.Names.{has_real_name, is_directory}
use Rattle.fop_types.specs.StoreOps.{both_names}
use Rattle.fop_types.specs.declared.answers.Answer.TheVariants as answer
use Rattle.fop_types.specs.declared.answers.AppError.TheVariants.{Enoent, Eexist, Enotdir, Eisdir, Enotempty}
use Rattle.fop_types.specs.declared.answers.FopAnswer.TheVariants as fop_answer
use Rattle.fop_types.specs.declared.cells.Gfid.{Gfid}
use Rattle.fop_types.specs.declared.cells.Kind.TheVariants as kind
use Rattle.fop_types.specs.declared.contents.Item.{Item}
use Rattle.fop_types.specs.declared.contents.Span.{Span}
use Rattle.fop_types.specs.declared.jobs.Job.{Job}
use Rattle.fop_types.specs.declared.jobs.Job.TheVariants as job
use Rattle.fop_types.specs.declared.store_ops.StoreOp.TheVariants as op

-- ---- lookup

abbrev pub lookup_found : Found → Seen → Course
lookup_found (found.Item set gfid kind) seen = Ends (fop_answer.Found set gfid kind) (Some seen.place)
lookup_found found.Absent seen = refuses Enoent (Some seen.place)
lookup_found (found.Io error) seen = fails error

-- ---- list

-- the names of each set, links left out, merged by rising bytes
abbrev pub lists_from : Gfid → List ℕ → List Item → Option ℕ → Course
lists_from dir [] names place = answers (answer.List names) place
lists_from dir (set ∷ sets) names place =
    Asks set (names_job dir)
    (after_names (λ shown. where_kept shown (lists_from dir sets (merged names (real_items shown.items)) (Some shown.place))))

-- ---- mkdir and create

abbrev pub birth_job : Gfid → Option Span → Job
birth_job gfid span = job.Birth (meta_cell gfid ∷ names_cell gfid ∷ []) (op.MakeCopy gfid span)

abbrev pub adds_dir : Volume → Gfid → List ℕ → ℕ → Gfid → Course
adds_dir v parent name mode drawn =
    changes 0 (names_cell parent ∷ []) 0 (op.AddName parent (item_of name drawn kind.Dir) mode (Some (even_span v.sets 0))) (Some (entry v 1))
    (Ends (fop_answer.Call answer.Done))

-- the copies on the sets after the first are born before the name is added there; each set's copy has its own range
abbrev pub births_from : Volume → Gfid → List ℕ → ℕ → Gfid → List ℕ → Course
births_from v parent name mode drawn [] = adds_dir v parent name mode drawn
births_from v parent name mode drawn (set ∷ sets) =
    Asks set (birth_job drawn (Some (even_span v.sets set))) (after_change (λ number. births_from v parent name mode drawn sets))

abbrev pub mkdir_found : Volume → Gfid → List ℕ → ℕ → Gfid → Found → Seen → Course
mkdir_found v parent name mode drawn (found.Item set gfid kind) seen = refuses Eexist (Some seen.place)
mkdir_found v parent name mode drawn found.Absent seen = births_from v parent name mode drawn (sets_from v 1)
mkdir_found v parent name mode drawn (found.Io error) seen = fails error

-- a link of the name on the set to which the name belongs is replaced
abbrev pub adds_file : Volume → Gfid → List ℕ → ℕ → Gfid → ℕ → Course
adds_file v parent name mode drawn hashed =
    changes hashed (names_cell parent ∷ []) 0 (op.AddName parent (item_of name drawn kind.File) mode None) (Some (entry v 1))
    (Ends (fop_answer.Found hashed drawn kind.File))

abbrev pub create_found : Volume → Gfid → List ℕ → ℕ → Gfid → ℕ → Found → Seen → Course
create_found v parent name mode drawn hashed (found.Item set gfid kind) seen = refuses Eexist (Some seen.place)
create_found v parent name mode drawn hashed found.Absent seen = adds_file v parent name mode drawn hashed
create_found v parent name mode drawn hashed (found.Io error) seen = fails error

-- ---- unlink and rmdir

-- a link that the look saw is dropped, and the fop ends as it would without
abbrev pub drops_link : Gfid → List ℕ → ℕ → Bool → Option ℕ → Course
drops_link parent name hashed has_link number =
    if has_link then Asks hashed (job.Change (names_cell parent ∷ []) 0 (op.DropName parent name) None) (after_any (answers answer.Done number))
    else answers answer.Done number

abbrev pub unlinks : Volume → Gfid → List ℕ → ℕ → Bool → ℕ → Course
unlinks v parent name hashed has_link set =
    changes set (names_cell parent ∷ []) 0 (op.DropName parent name) (Some (entry v 1)) (drops_link parent name hashed has_link)

abbrev pub unlink_found : Volume → Gfid → List ℕ → ℕ → Found → Seen → Course
unlink_found v parent name hashed (found.Item set gfid kind) seen =
    if is_directory kind then refuses Eisdir (Some seen.place) else unlinks v parent name hashed seen.has_link set
unlink_found v parent name hashed found.Absent seen = refuses Enoent (Some seen.place)
unlink_found v parent name hashed (found.Io error) seen = fails error

abbrev pub drops_dir : Volume → Gfid → List ℕ → Gfid → Course
drops_dir v parent name gfid =
    changes 0 (both_names parent gfid) 0 (op.DropDir parent name gfid) (Some (entry v 1)) (Ends (fop_answer.Call answer.Done))

-- the directory is read on the sets, up to the first that shows a name that is no link
abbrev pub empties : Volume → Gfid → List ℕ → Gfid → List ℕ → Course
empties v parent name gfid [] = drops_dir v parent name gfid
empties v parent name gfid (set ∷ sets) =
    Asks set (names_job gfid)
    (after_names (λ shown. if has_real_name shown.items then refuses Enotempty (Some shown.place) else empties v parent name gfid sets))

abbrev pub rmdir_found : Volume → Gfid → List ℕ → Found → Seen → Course
rmdir_found v parent name (found.Item set gfid kind) seen =
    if is_directory kind then Extends gfid (empties v parent name gfid (sets_from v 0)) else refuses Enotdir (Some seen.place)
rmdir_found v parent name found.Absent seen = refuses Enoent (Some seen.place)
rmdir_found v parent name (found.Io error) seen = fails error
