-- The turns of a fop keep its bounds, by the laws of fops.
use Rattle.std.proofs.Common.{◌≡◌, ◌∙◌, ℕ, ◌<◌, ◌≤◌, nat_lt, true, ◌&&◌, List, [], ◌∷◌, length, Option, Some, None, is_none, sym, subst}
use Rattle.std.proofs.lemmas.Bool.{and_parts, ltb-true}
use Rattle.dht_fops.specs.Bounds.{KeepsBounds, FopsKeepBounds}
use Rattle.dht_fops.specs.Courses.{Course}
use Rattle.dht_fops.specs.Fops.{fop_course}
use Rattle.dht_fops.specs.Founded.{NamesSets}
use Rattle.dht_fops.specs.Volumes.{Kept}
use Rattle.dht_fops.specs.code.Fops.{course_on, goes_on_with, goes_held_with, asked_of, GivesOneJob}
use Rattle.dht_fops.specs.code.Within.{CoursesKeepFops}
use Rattle.dht_fops.specs.declared.dht_fop.DhtFop.{DhtFop}
use Rattle.dht_fops.specs.declared.step.DhtNext.{DhtNext}
use Rattle.dht_fops.specs.declared.step.DhtNext.TheVariants as next
use Rattle.dht_fops.specs.declared.volume.Volume.{Volume}
use Rattle.fop_types.specs.Bounds.{Each, IsFop, IsVolumeName}
use Rattle.fop_types.specs.Jobs.{IsJob, IsSetReply}
use Rattle.fop_types.specs.declared.fops.Fop.{Fop}
use Rattle.fop_types.specs.declared.fops.Fop.TheVariants as fop
use Rattle.fop_types.specs.declared.fops.OpenFd.{OpenFd}
use Rattle.fop_types.specs.declared.jobs.Job.{Job}
use Rattle.fop_types.specs.declared.jobs.SetReply.{SetReply}
use Rattle.graph_nodes.specs.Distribute.{AreJobs, are_below, names_sets}
use Rattle.graph_nodes.specs.Kept.{WaitsBy, IsFopKept}
use Rattle.graph_nodes.specs.Turns.{IsFopTurn}

are_jobs : (count : ℕ) (jobs : List (ℕ × Job)) → Each (λ (asked : ℕ × Job). (asked.0 < count) × IsJob asked.1) jobs → AreJobs jobs
are_jobs count [] h = tt
are_jobs count (one ∷ jobs) h = (h.0.1, are_jobs count jobs h.1)

-- a fop on a course that keeps bounds
turn : (courses : CoursesKeepFops) (count : ℕ) (f : DhtFop) (n : DhtNext) → GivesOneJob n → KeepsBounds count (course_on f n) → f.asked ≡ asked_of n → IsFopTurn f n
turn courses count f (next.Jobs []) one keeps asked = absurd cc
turn courses count f (next.Jobs (job ∷ jobs)) one keeps asked =
    let w = courses count f (next.Jobs (job ∷ jobs)) one keeps in
    (are_jobs count (job ∷ jobs) w.0, record { count = count; waits = subst (λ (o : Option ℕ). WaitsBy o count f) (sym asked) w.1 })
turn courses count f (next.Hold dir) one keeps asked =
    let w = courses count f (next.Hold dir) one keeps in
    record { count = count; waits = subst (λ (o : Option ℕ). WaitsBy o count f) (sym asked) w.1 }
turn courses count f (next.Done answer place) one keeps asked = tt

pub begun_turn : (bounds : FopsKeepBounds) (courses : CoursesKeepFops) (v : Volume) (names : List (List ℕ)) (kept : Kept) (op : Fop) (f : DhtFop) (n : DhtNext)
    → 1 ≤ v.root_sets → v.root_sets ≤ v.sets → length names ≡ v.sets → Each IsVolumeName names → NamesSets v.sets op → IsFop op
    → course_on f n ≡ fop_course v names kept op → f.asked ≡ asked_of n → GivesOneJob n → IsFopTurn f n
begun_turn bounds courses v names kept op f n some within count named sets fits is asked one =
    turn courses v.sets f n one (subst (λ (c : Course). KeepsBounds v.sets c) (sym is) (bounds v names kept op some within count named sets fits)) asked

pub answer_turn : (courses : CoursesKeepFops) (old f : DhtFop) (set : ℕ) (reply : SetReply) (n : DhtNext)
    → IsFopKept old → old.asked ≡ Some set → IsSetReply reply
    → course_on f n ≡ goes_on_with old reply → f.asked ≡ asked_of n → GivesOneJob n → IsFopTurn f n
answer_turn courses old f set reply n kept was fits is asked one =
    let waits : WaitsBy (Some set) kept.count old = subst (λ (o : Option ℕ). WaitsBy o kept.count old) was kept.waits in
    turn courses kept.count f n one (subst (λ (c : Course). KeepsBounds kept.count c) (sym is) (waits reply fits)) asked

pub held_turn : (courses : CoursesKeepFops) (old f : DhtFop) (n : DhtNext)
    → IsFopKept old → is_none old.asked ≡ true
    → course_on f n ≡ goes_held_with old → f.asked ≡ asked_of n → GivesOneJob n → IsFopTurn f n
held_turn courses old f n kept was is asked one =
    turn courses kept.count f n one (subst (λ (c : Course). KeepsBounds kept.count c) (sym is) (by old.asked kept.waits was)) asked where
      by : (o : Option ℕ) → WaitsBy o kept.count old → is_none o ≡ true → KeepsBounds kept.count (goes_held_with old)
      by None waits h = waits
      by (Some set) waits h = absurd cc

-- ---- the sets that a fop names

all_below : (sets : ℕ) (fds : List OpenFd) → are_below sets fds ≡ true → Each (λ (open_fd : OpenFd). open_fd.set < sets) fds
all_below sets [] h = tt
all_below sets (f ∷ fs) h = let parts = and_parts (nat_lt f.set sets) (are_below sets fs) h in (ltb-true f.set sets parts.0, all_below sets fs parts.1)

pub named_sets : (sets : ℕ) (f : Fop) → names_sets sets f ≡ true → NamesSets sets f
named_sets sets (fop.Lookup parent name) h = tt
named_sets sets (fop.Mkdir parent name mode drawn) h = tt
named_sets sets (fop.Rmdir parent name) h = tt
named_sets sets (fop.Create fd parent name mode drawn) h = tt
named_sets sets (fop.Unlink parent name) h = tt
named_sets sets (fop.Rename parent name target new_name) h = tt
named_sets sets (fop.Open fd object) h = ltb-true object.set sets h
named_sets sets (fop.Stat object) h = ltb-true object.set sets h
named_sets sets (fop.List object) h = tt
named_sets sets (fop.Chmod object mode) h = ltb-true object.set sets h
named_sets sets (fop.Truncate object size) h = ltb-true object.set sets h
named_sets sets (fop.SetAttr object attr) h = ltb-true object.set sets h
named_sets sets (fop.GetAttr object name) h = ltb-true object.set sets h
named_sets sets (fop.DelAttr object name) h = ltb-true object.set sets h
named_sets sets (fop.Read fd object offset count) h = ltb-true object.set sets h
named_sets sets (fop.Write fd object offset bytes) h = ltb-true object.set sets h
named_sets sets (fop.Migrate fds) h = all_below sets fds h
named_sets sets (fop.Heal count) h = tt
