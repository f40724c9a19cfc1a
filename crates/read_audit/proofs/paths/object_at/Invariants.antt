use Rattle.std.proofs.Common.{drop}
use Rattle.call_fops.specs.Walks.{root_object}
use Rattle.fop_types.specs.declared.fops.Object.{Object}
use Rattle.read_audit.specs.Names.{LeadsTo}
use Rattle.read_audit.proofs.paths.object_at.Given as goal

abbrev pub invariant-loop-name : goal.invariant-loop-name
invariant-loop-name l =
    (to : Object) → LeadsTo l.run.script.now l.run.plans.now l.run.log.now l.run.bricks.now l.by.call l.by.number (drop l.name-index l.path) l.object to → LeadsTo l.run.script.now l.run.plans.now l.run.log.now l.run.bricks.now l.by.call l.by.number l.path root_object to
