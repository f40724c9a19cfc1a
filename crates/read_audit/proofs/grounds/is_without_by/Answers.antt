use Rattle.read_audit.proofs.Absent.{without_attr}
use Rattle.read_audit.proofs.grounds.is_without_by.Goals as goal

pub returns : goal.returns
returns c = λ yes. without_attr c.args.run.now.script.now c.args.run.now.plans.now c.args.run.now.log.now c.args.run.now.bricks.now c.args.by.call c.args.by.number c.args.object c.args.name.now c.home-set.result c.meta_cell-cell.result c.in_ok-read.read c.in-Some.content c.home-set.ensures c.meta_cell-cell.ensures c.in-Some.is c.in_ok-read.ensures (c.has_no_attr.ensures yes)
