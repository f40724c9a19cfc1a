-- What a fop gives next, within bounds, and what it then waits for.
use Rattle.std.specs.Prelude.{ℕ, ◌<◌, List}
use Rattle.dht_fops.specs.Bounds.{NamesObject, KeepsBounds}
use Rattle.dht_fops.specs.code.Fops.{goes_on_with, goes_held_with, course_on, GivesOneJob}
use Rattle.dht_fops.specs.declared.dht_fop.DhtFop.{DhtFop}
use Rattle.dht_fops.specs.declared.step.DhtNext.{DhtNext}
use Rattle.dht_fops.specs.declared.step.DhtNext.TheVariants as next
use Rattle.fop_types.specs.Bounds.{Each, IsGfid}
use Rattle.fop_types.specs.Jobs.{IsJob, IsSetReply}
use Rattle.fop_types.specs.declared.jobs.Job.{Job}
use Rattle.fop_types.specs.declared.jobs.SetReply.{SetReply}

-- the jobs, the directory of the hold, or the object that was found
abbrev pub IsNextWithin : ℕ → DhtNext → Type 0
IsNextWithin count (next.Jobs jobs) = Each (λ (asked : ℕ × Job). (asked.0 < count) × IsJob asked.1) jobs
IsNextWithin count (next.Hold dir) = IsGfid dir
IsNextWithin count (next.Done answer place) = NamesObject count answer

-- what a fop that waits goes on with keeps bounds: after each reply within its bounds, or once the hold is extended
abbrev pub WaitsWithin : ℕ → DhtFop → DhtNext → Type 0
WaitsWithin count fop (next.Jobs jobs) = (reply : SetReply) → IsSetReply reply → KeepsBounds count (goes_on_with fop reply)
WaitsWithin count fop (next.Hold dir) = KeepsBounds count (goes_held_with fop)
WaitsWithin count fop (next.Done answer place) = Unit {0}

-- A fop on a course that keeps bounds gives what is within them, and waits so.
abbrev pub CoursesKeepFops : Type 0
CoursesKeepFops = (count : ℕ) (fop : DhtFop) (next : DhtNext) → GivesOneJob next → KeepsBounds count (course_on fop next) → IsNextWithin count next × WaitsWithin count fop next
