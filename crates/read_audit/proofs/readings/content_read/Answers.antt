use Rattle.std.proofs.lemmas.Option.{IfSome_then}
use Rattle.read_audit.proofs.Fetching.{fetched}
use Rattle.read_audit.proofs.readings.content_read.Goals as goal

pub returns : goal.returns
returns c =
    IfSome_then c.in_ok-content.content c.in_ok-content.ensures
    (λ content shown.
    fetched c.args.run.now.script.now c.args.run.now.log.now c.args.run.now.graphs.now c.args.run.now.graphs_are c.args.run.now.plans.now c.args.run.now.bricks.now c.args.by.call c.args.by.graph c.args.by.number c.args.set c.args.at.source c.args.at.event c.args.cell.now
    content c.in-Some.plan.now c.requires c.in-Some.ensures.found c.if-at-by.false (c.in_ok-has_holders.ensures c.if-not-branch.false) shown)
