-- What always holds of a fop's course holds where it is.
use Rattle.std.proofs.Common.{ℕ, [], Option}
use Rattle.dht_fops.specs.Courses.{Course}
use Rattle.dht_fops.specs.Handed.{Handed, Always}
use Rattle.fop_types.specs.declared.answers.FopAnswer.{FopAnswer}
use Rattle.fop_types.specs.declared.cells.Gfid.{Gfid}
use Rattle.fop_types.specs.declared.jobs.Job.{Job}
use Rattle.mount_laws.specs.Runs.{Leads}
use Rattle.mount_laws.specs.Runs.Leads.{Begun, Answered, Extended}

pub led_always : (P : Handed → ℕ → Job → Type 0) (H : Handed → Gfid → Type 0) (Q : Handed → FopAnswer → Option ℕ → Type 0) (first : Course) (handed : Handed) (course : Course) → Leads first handed course → Always P H Q [] first → Always P H Q handed course
led_always P H Q first _ _ Begun a = a
led_always P H Q first _ _ (Answered handed set job next reply l) a = (led_always P H Q first handed (Course.Asks set job next) l a).1 reply
led_always P H Q first _ _ (Extended handed dir next l) a = (led_always P H Q first handed (Course.Extends dir next) l a).1
