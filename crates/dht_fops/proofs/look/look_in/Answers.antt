use Rattle.dht_fops.proofs.LookSteps.{look_begun}
use Rattle.dht_fops.specs.code.Waits.{course_of}
use Rattle.dht_fops.proofs.look.look_in.Goals as goal

pub returns : goal.returns
returns c =
    look_begun c.args.volume c.args.purpose c.args.dir c.args.name c.args.names c.args.hashed c.over-lookup.result (course_of c.args.volume c.in_ok-step.step) c.over-lookup.ensures c.in_ok-step.ensures
