use Rattle.std.proofs.Common.{subst}
use Rattle.std.specs.Prelude.{Option, IfSome}
use Rattle.fop_types.specs.declared.contents.Content.{Content}
use Rattle.read_audit.specs.Read.{IsFetched}
use Rattle.read_audit.proofs.Reading.{part_is}
use Rattle.read_audit.proofs.objects.is_part_read.Goals as goal

pub returns : goal.returns
returns c = λ yes.
    let fetched : IsFetched c.args.run.now.script.now c.args.run.now.plans.now c.args.run.now.log.now c.args.run.now.bricks.now c.args.by.call c.args.by.number c.in-Some-set_with.set c.data_cell-cell.result c.in-Some-read.content =
    subst (λ (f : Option Content). IfSome f (λ x. IsFetched c.args.run.now.script.now c.args.run.now.plans.now c.args.run.now.log.now c.args.run.now.bricks.now c.args.by.call c.args.by.number c.in-Some-set_with.set c.data_cell-cell.result x)) c.in-Some-read.is c.in_ok-read.ensures in
    part_is c.args.run.now.script.now c.args.run.now.plans.now c.args.run.now.log.now c.args.run.now.bricks.now c.args.by.call c.args.by.number c.in-Some-set_with.set c.data_cell-cell.result c.in-Some.at.cell.gfid c.in-Some-read.content c.args.offset c.args.count c.args.bytes.now
    c.data_cell-cell.ensures fetched (c.has_part.ensures yes)
