-- What each fop does.
use Rattle.std.specs.Prelude.{ℕ, List, [], length, None, if◌then◌else◌}
use Rattle.dht_linkto.specs.Search.{hashed_set}
use Rattle.dht_fops.specs.Courses.{Course, refuses}
use Rattle.dht_fops.specs.Entries.{lookup_found, lists_from, mkdir_found, create_found, unlink_found, rmdir_found}
use Rattle.dht_fops.specs.Internal.{opens_again, indexes}
use Rattle.dht_fops.specs.Looks.{Ending, where_named, finds, looks_in}
use Rattle.dht_fops.specs.Objects.{opens, stats, gets_attr, reads_bytes, sets_mode, truncates, sets_attr, dels_attr, writes}
use Rattle.dht_fops.specs.Renames.{renames_from}
use Rattle.dht_fops.specs.Volumes.{Kept, known_set, sets_from}
use Rattle.dht_fops.specs.declared.volume.Volume.{Volume}
use Rattle.fop_types.specs.Names.{is_directory}
use Rattle.fop_types.specs.declared.answers.AppError.TheVariants.{Enotdir}
use Rattle.fop_types.specs.declared.fops.Fop.{Fop}
use Rattle.fop_types.specs.declared.fops.Fop.TheVariants as fop
use Rattle.fop_types.specs.declared.fops.Object.{Object}

-- a fop on a name of a directory looks for it; the ending says how it goes on, by the set to which the name belongs
abbrev pub on_name : Volume → List (List ℕ) → Kept → Object → List ℕ → (ℕ → Ending) → Course
on_name v names kept parent name ending =
    where_named parent name None
    (finds (length names) parent.gfid (known_set v kept parent.gfid name)
    (looks_in parent.gfid name names 0 ending)
    (λ spans. looks_in parent.gfid name names 0 ending (hashed_set spans name)))

abbrev pub lists : Volume → Object → Course
lists v object =
    if is_directory object.kind then lists_from object.gfid (sets_from v 0) [] None else refuses Enotdir None

abbrev pub renames : Volume → List (List ℕ) → Kept → Object → List ℕ → Object → List ℕ → Course
renames v names kept parent name target new_name =
    where_named parent name None
    (renames_from v names parent.gfid name target new_name (known_set v kept parent.gfid name) (known_set v kept target.gfid new_name))

-- the course of a fop on a volume whose sets have these names, where these layouts are kept
abbrev pub fop_course : Volume → List (List ℕ) → Kept → Fop → Course
fop_course v names kept (fop.Lookup parent name) = on_name v names kept parent name (λ hashed. lookup_found)
fop_course v names kept (fop.Mkdir parent name mode drawn) = on_name v names kept parent name (λ hashed. mkdir_found v parent.gfid name mode drawn)
fop_course v names kept (fop.Rmdir parent name) = on_name v names kept parent name (λ hashed. rmdir_found v parent.gfid name)
fop_course v names kept (fop.Create fd parent name mode drawn) = on_name v names kept parent name (create_found v parent.gfid name mode drawn)
fop_course v names kept (fop.Unlink parent name) = on_name v names kept parent name (unlink_found v parent.gfid name)
fop_course v names kept (fop.Rename parent name target new_name) = renames v names kept parent name target new_name
fop_course v names kept (fop.Open fd object) = opens object fd
fop_course v names kept (fop.Stat object) = stats object
fop_course v names kept (fop.List object) = lists v object
fop_course v names kept (fop.Chmod object mode) = sets_mode v object mode
fop_course v names kept (fop.Truncate object size) = truncates v object size
fop_course v names kept (fop.SetAttr object attr) = sets_attr v object attr
fop_course v names kept (fop.GetAttr object name) = gets_attr object name
fop_course v names kept (fop.DelAttr object name) = dels_attr v object name
fop_course v names kept (fop.Read fd object offset count) = reads_bytes object fd offset count
fop_course v names kept (fop.Write fd object offset bytes) = writes v object fd offset bytes
fop_course v names kept (fop.Migrate fds) = opens_again fds
fop_course v names kept (fop.Heal count) = indexes count (sets_from v 0) []
