use Rattle.read_audit.proofs.Absent.{nowhere}
use Rattle.read_audit.proofs.missing.is_nowhere.Goals as goal

pub returns : goal.returns
returns c = λ yes.
    nowhere c.args.run.now.script.now c.args.run.now.log.now c.args.run.now.graphs.now c.args.run.now.graphs_are c.args.run.now.plans.now c.args.run.now.bricks.now c.args.by.call c.args.by.graph c.args.by.number c.args.dir c.args.name.now c.in-Some.plan.now c.in-Some-sets_of.sets
    c.requires c.in-Some.ensures.found c.in-Some-sets_of.ensures (c.in_ok-yes.ensures yes)
