use Rattle.read_audit.proofs.NoCopies.{lacking_is}
use Rattle.read_audit.proofs.lacking.is_lacking.Goals as goal

pub returns : goal.returns
returns c = λ yes.
    lacking_is c.args.run.now.script.now c.args.run.now.log.now c.args.run.now.graphs.now c.args.run.now.graphs_are c.args.run.now.plans.now c.args.run.now.bricks.now c.args.by.call c.args.by.graph c.args.by.number c.args.set c.args.cell.now c.in-Some.plan.now (c.is_behind.ensures c.if-not-is_behind.false) c.requires c.in-Some.ensures.found
    (c.in_ok-yes.ensures yes)
