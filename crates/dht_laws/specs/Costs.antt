-- How many jobs a fop asks for at most.
use Rattle.std.specs.Prelude.{◌≡◌, ℕ, ◌+◌, ◌*◌, ◌-◌, ◌≤◌, List, length}
use Rattle.dht_fops.specs.Courses.{Course}
use Rattle.dht_fops.specs.Courses.Course.{Asks, Extends, Ends}
use Rattle.dht_fops.specs.Fops.{fop_course}
use Rattle.dht_fops.specs.Volumes.{Kept}
use Rattle.dht_fops.specs.declared.volume.Volume.{Volume}
use Rattle.fop_types.specs.declared.fops.Fop.{Fop}
use Rattle.fop_types.specs.declared.fops.Fop.TheVariants as fop
use Rattle.fop_types.specs.declared.jobs.SetReply.{SetReply}

-- whatever the replies are
abbrev pub AsksAtMost : ℕ → Course → Type 0
AsksAtMost n (Asks set job next) = (1 ≤ n) × ((reply : SetReply) → AsksAtMost (n - 1) (next reply))
AsksAtMost n (Extends dir next) = AsksAtMost n next
AsksAtMost n (Ends answer place) = Unit {0}

-- A fop on a name reads at most the layout and the names of two directories on every set, and makes six changes or
-- births, but for mkdir, which gives birth on each further set, and rmdir, which reads one more directory.
abbrev pub few_jobs : ℕ → ℕ
few_jobs sets = 4 * sets + 16

-- A heal lists the cells of each set, of which it takes at most two for each object that was made and two more.
abbrev pub most_jobs : ℕ → Fop → ℕ
most_jobs sets (fop.Lookup parent name) = few_jobs sets
most_jobs sets (fop.Mkdir parent name mode drawn) = few_jobs sets
most_jobs sets (fop.Rmdir parent name) = few_jobs sets
most_jobs sets (fop.Create fd parent name mode drawn) = few_jobs sets
most_jobs sets (fop.Unlink parent name) = few_jobs sets
most_jobs sets (fop.Rename parent name target new_name) = few_jobs sets
most_jobs sets (fop.Open fd object) = few_jobs sets
most_jobs sets (fop.Stat object) = few_jobs sets
most_jobs sets (fop.List object) = few_jobs sets
most_jobs sets (fop.Chmod object mode) = few_jobs sets
most_jobs sets (fop.Truncate object size) = few_jobs sets
most_jobs sets (fop.SetAttr object attr) = few_jobs sets
most_jobs sets (fop.GetAttr object name) = few_jobs sets
most_jobs sets (fop.DelAttr object name) = few_jobs sets
most_jobs sets (fop.Read fd object offset count) = few_jobs sets
most_jobs sets (fop.Write fd object offset bytes) = few_jobs sets
most_jobs sets (fop.Migrate fds) = length fds
most_jobs sets (fop.Heal count) = sets + sets * (2 * count + 2)

abbrev pub FopsAskFew : Type 0
FopsAskFew = (v : Volume) (names : List (List ℕ)) (kept : Kept) (f : Fop) → length names ≡ v.sets → AsksAtMost (most_jobs v.sets f) (fop_course v names kept f)
