use Rattle.read_audit.specs.Taking.{FirstRest}
use Rattle.read_audit.proofs.taken.sets_taken.Given as goal

abbrev pub invariant-loop-k : goal.invariant-loop-k
invariant-loop-k l = FirstRest l.run.script.now l.run.plans.now l.run.log.now l.run.bricks.now l.ops l.claims l.k l.sets.items
