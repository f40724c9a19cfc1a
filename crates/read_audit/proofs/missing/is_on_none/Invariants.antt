use Rattle.std.proofs.Common.{ℕ, ◌<◌}
use Rattle.read_audit.specs.Errors.{IsNotOn}
use Rattle.read_audit.proofs.missing.is_on_none.Given as goal

abbrev pub invariant-loop-set : goal.invariant-loop-set
invariant-loop-set l = (s : ℕ) → s < l.set → IsNotOn l.run.script.now l.run.plans.now l.run.log.now l.run.bricks.now l.by.call l.by.number l.dir l.name s
