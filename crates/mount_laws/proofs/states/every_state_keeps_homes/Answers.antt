use Rattle.mount_laws.proofs.Homing.{jobs_home, changed_home}
use Rattle.mount_laws.proofs.states.every_state_keeps_homes.Goals as goal

pub returns : goal.returns
returns c = λ first m reached. record { jobs = jobs_home c.fops_change_on_sets.ensures first m reached; changes = changed_home c.fops_change_on_sets.ensures first m reached }
