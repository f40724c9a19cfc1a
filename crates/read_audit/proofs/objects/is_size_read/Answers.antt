use Rattle.std.proofs.Common.{subst}
use Rattle.std.specs.Prelude.{Option, IfSome}
use Rattle.fop_types.specs.declared.contents.Content.{Content}
use Rattle.read_audit.specs.Read.{IsFetched}
use Rattle.read_audit.proofs.Reading.{size_is}
use Rattle.read_audit.proofs.objects.is_size_read.Goals as goal

pub returns : goal.returns
returns c = λ yes.
    let fetched : IsFetched c.args.run.now.script.now c.args.run.now.plans.now c.args.run.now.log.now c.args.run.now.bricks.now c.args.by.call c.args.by.number c.args.set c.data_cell-cell.result c.in-Some.content =
    subst (λ (f : Option Content). IfSome f (λ x. IsFetched c.args.run.now.script.now c.args.run.now.plans.now c.args.run.now.log.now c.args.run.now.bricks.now c.args.by.call c.args.by.number c.args.set c.data_cell-cell.result x)) c.in-Some.is c.in_ok-read.ensures in
    size_is c.args.run.now.script.now c.args.run.now.plans.now c.args.run.now.log.now c.args.run.now.bricks.now c.args.by.call c.args.by.number c.args.set c.data_cell-cell.result c.args.gfid c.in-Some.content c.args.size
    c.data_cell-cell.ensures fetched (c.has_size.ensures yes)
