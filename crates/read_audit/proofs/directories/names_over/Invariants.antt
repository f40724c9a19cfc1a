use Rattle.read_audit.specs.Naming.{HaveFirst}
use Rattle.read_audit.proofs.directories.names_over.Given as goal

abbrev pub invariant-loop-set : goal.invariant-loop-set
invariant-loop-set l = HaveFirst l.run.script.now l.run.plans.now l.run.log.now l.run.bricks.now l.by.call l.by.number l.dir l.set l.lists.items
