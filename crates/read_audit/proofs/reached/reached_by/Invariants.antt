use Rattle.std.specs.List.{AllByRecursion}
use Rattle.read_audit.specs.Erring.{IsReached}
use Rattle.read_audit.proofs.reached.reached_by.Given as goal

abbrev pub invariant-loop : goal.invariant-loop
invariant-loop l = AllByRecursion (IsReached l.run.script.now l.run.plans.now l.run.log.now l.run.bricks.now l.by.call l.by.number l.path) l.all.items
