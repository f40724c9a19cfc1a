use Rattle.std.proofs.Common.{subst}
use Rattle.std.specs.Prelude.{Option, IfSome}
use Rattle.std.proofs.lemmas.Option.{IfSome_then}
use Rattle.fop_types.specs.declared.contents.Content.{Content}
use Rattle.read_audit.specs.Read.{IsFetched}
use Rattle.read_audit.proofs.Walking.{step_is}
use Rattle.read_audit.proofs.paths.step_by.Goals as goal

pub returns : goal.returns
returns c =
    let fetched : IsFetched c.args.run.now.script.now c.args.run.now.plans.now c.args.run.now.log.now c.args.run.now.bricks.now c.args.by.call c.args.by.number c.in-Some.set c.names_cell-cell.result c.in-Some-read.content =
    subst (λ (f : Option Content). IfSome f (λ x. IsFetched c.args.run.now.script.now c.args.run.now.plans.now c.args.run.now.log.now c.args.run.now.bricks.now c.args.by.call c.args.by.number c.in-Some.set c.names_cell-cell.result x)) c.in-Some-read.is c.in_ok-read.ensures in
    IfSome_then c.object_shown.result c.object_shown.ensures
    (λ to has. step_is c.args.run.now.script.now c.args.run.now.plans.now c.args.run.now.log.now c.args.run.now.bricks.now c.args.by.call c.args.by.number c.in-Some.set c.args.dir c.names_cell-cell.result c.in-Some-read.content c.args.name.now to c.names_cell-cell.ensures fetched has)
