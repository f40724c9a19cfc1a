-- What the caller is given is the step's turn.
use Rattle.dht_fops.proofs.Turns.{step_given, asked_given, one_given}
use Rattle.dht_fops.proofs.dht_fop.DhtFop.go_on.Goals as goal

pub returns-clause-course : goal.returns-clause-course
returns-clause-course c = step_given c.args.self.now.volume c.args.step c.replace.new.dest c.in_ok-next.next c.replace.ensures.after c.in_ok-next.ensures

pub returns-clause-asked : goal.returns-clause-asked
returns-clause-asked c = asked_given c.args.step.turn c.in_ok-next.next c.asked-asked.result c.in_ok-next.ensures c.asked-asked.ensures

pub returns-clause-one : goal.returns-clause-one
returns-clause-one c = one_given c.args.step.turn c.in_ok-next.next c.in_ok-next.ensures
