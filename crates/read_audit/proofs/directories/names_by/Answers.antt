use Rattle.std.proofs.Common.{subst}
use Rattle.std.specs.Prelude.{Option, IfSome}
use Rattle.std.proofs.lemmas.Option.{IfSome_then}
use Rattle.fop_types.specs.declared.contents.Content.{Content}
use Rattle.read_audit.specs.Read.{IsFetched}
use Rattle.read_audit.proofs.Walking.{names_are}
use Rattle.read_audit.proofs.directories.names_by.Goals as goal

pub returns : goal.returns
returns c =
    let fetched : IsFetched c.args.run.now.script.now c.args.run.now.plans.now c.args.run.now.log.now c.args.run.now.bricks.now c.args.by.call c.args.by.number c.args.set c.names_cell-cell.result c.in-Some.content =
    subst (λ (f : Option Content). IfSome f (λ x. IsFetched c.args.run.now.script.now c.args.run.now.plans.now c.args.run.now.log.now c.args.run.now.bricks.now c.args.by.call c.args.by.number c.args.set c.names_cell-cell.result x)) c.in-Some.is c.in_ok-read.ensures in
    IfSome_then c.items_in.result c.items_in.ensures (λ items is. names_are c.args.run.now.script.now c.args.run.now.plans.now c.args.run.now.log.now c.args.run.now.bricks.now c.args.by.call c.args.by.number c.args.set c.args.dir c.names_cell-cell.result c.in-Some.content items c.names_cell-cell.ensures fetched is)
