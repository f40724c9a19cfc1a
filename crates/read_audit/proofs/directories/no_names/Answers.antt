use Rattle.read_audit.proofs.Listing.{none_are}
use Rattle.read_audit.proofs.directories.no_names.Goals as goal

pub returns : goal.returns
returns c = none_are c.args.run.now.script.now c.args.run.now.plans.now c.args.run.now.log.now c.args.run.now.bricks.now c.args.by.call c.args.by.number c.args.set c.args.dir c.names_cell-cell.result c.new.result c.names_cell-cell.ensures c.new.ensures (c.in_ok-is_lacking.ensures c.if-not-branch.false)
