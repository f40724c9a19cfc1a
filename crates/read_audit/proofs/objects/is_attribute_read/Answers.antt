use Rattle.std.proofs.Common.{subst}
use Rattle.std.specs.Prelude.{Option, IfSome}
use Rattle.fop_types.specs.declared.contents.Content.{Content}
use Rattle.read_audit.specs.Read.{IsFetched}
use Rattle.read_audit.proofs.Reading.{attribute_is}
use Rattle.read_audit.proofs.objects.is_attribute_read.Goals as goal

pub returns : goal.returns
returns c = λ yes.
    let fetched : IsFetched c.args.run.now.script.now c.args.run.now.plans.now c.args.run.now.log.now c.args.run.now.bricks.now c.args.by.call c.args.by.number c.args.set c.meta_cell-cell.result c.in-Some-read.content =
    subst (λ (f : Option Content). IfSome f (λ x. IsFetched c.args.run.now.script.now c.args.run.now.plans.now c.args.run.now.log.now c.args.run.now.bricks.now c.args.by.call c.args.by.number c.args.set c.meta_cell-cell.result x)) c.in-Some-read.is c.in_ok-read.ensures in
    attribute_is c.args.run.now.script.now c.args.run.now.plans.now c.args.run.now.log.now c.args.run.now.bricks.now c.args.by.call c.args.by.number c.args.set c.meta_cell-cell.result c.args.gfid c.in-Some-read.content c.args.name.now c.args.value.now
    c.meta_cell-cell.ensures fetched (c.has_attribute.ensures yes)
