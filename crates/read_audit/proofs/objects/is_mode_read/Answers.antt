use Rattle.std.proofs.Common.{subst}
use Rattle.std.specs.Prelude.{Option, IfSome}
use Rattle.fop_types.specs.declared.contents.Content.{Content}
use Rattle.read_audit.specs.Read.{IsFetched}
use Rattle.read_audit.proofs.Reading.{mode_is}
use Rattle.read_audit.proofs.objects.is_mode_read.Goals as goal

pub returns : goal.returns
returns c = λ yes.
    let fetched : IsFetched c.args.run.now.script.now c.args.run.now.plans.now c.args.run.now.log.now c.args.run.now.bricks.now c.args.by.call c.args.by.number c.args.set c.meta_cell-cell.result c.in-Some.content =
    subst (λ (f : Option Content). IfSome f (λ x. IsFetched c.args.run.now.script.now c.args.run.now.plans.now c.args.run.now.log.now c.args.run.now.bricks.now c.args.by.call c.args.by.number c.args.set c.meta_cell-cell.result x)) c.in-Some.is c.in_ok-read.ensures in
    mode_is c.args.run.now.script.now c.args.run.now.plans.now c.args.run.now.log.now c.args.run.now.bricks.now c.args.by.call c.args.by.number c.args.set c.meta_cell-cell.result c.args.gfid c.in-Some.content c.args.mode
    c.meta_cell-cell.ensures fetched (c.has_mode.ensures yes)
