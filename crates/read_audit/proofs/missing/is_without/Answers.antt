use Rattle.read_audit.proofs.Absent.{not_on}
use Rattle.read_audit.proofs.missing.is_without.Goals as goal

pub returns : goal.returns
returns c = λ yes. not_on c.args.run.now.script.now c.args.run.now.plans.now c.args.run.now.log.now c.args.run.now.bricks.now c.args.by.call c.args.by.number c.args.dir c.args.name.now c.args.set c.in_ok-names.names c.in_ok-names.ensures (c.lack.ensures yes)
