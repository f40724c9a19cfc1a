-- What the caller is given is the first step's turn.
use Rattle.std.proofs.Common.{◌∙◌, refl}
use Rattle.dht_fops.proofs.Turns.{step_given, asked_given, one_given}
use Rattle.dht_fops.specs.code.Fops.{volume_of}
use Rattle.dht_fops.proofs.dht_fop.DhtFop.begin.Goals as goal

pub returns-in-Ok-clause-course : goal.returns-in-Ok-clause-course
returns-in-Ok-clause-course c =
    step_given (volume_of c.args.call c.args.sets c.args.root_sets) c.in_ok-step.step c.in_ok-step.step.state c.in-Ok.next refl c.in-Ok.ensures
    ∙ c.in_ok-step.ensures

pub returns-in-Ok-clause-asked : goal.returns-in-Ok-clause-asked
returns-in-Ok-clause-asked c = asked_given c.in_ok-step.step.turn c.in-Ok.next c.asked-asked.result c.in-Ok.ensures c.asked-asked.ensures

pub returns-in-Ok-clause-one : goal.returns-in-Ok-clause-one
returns-in-Ok-clause-one c = one_given c.in_ok-step.step.turn c.in-Ok.next c.in-Ok.ensures
