use Rattle.read_audit.proofs.Resting.{reaches_by}
use Rattle.read_audit.proofs.works.are_reached.Goals as goal

pub returns-clause-works : goal.returns-clause-works
returns-clause-works c = λ _. reaches_by c.args.run.now.script.now c.args.run.now.plans.now c.args.run.now.log.now c.args.run.now.bricks.now c.args.by.call c.args.by.number c.path_for-path.result.now _ c.worked_on-to.result _ c.path_for-path.ensures c.worked_on-to.ensures (c.in_ok-reaches.ensures c.if-not-branch.false)

pub returns-clause-moves : goal.returns-clause-moves
returns-clause-moves c = λ yes. reaches_by c.args.run.now.script.now c.args.run.now.plans.now c.args.run.now.log.now c.args.run.now.bricks.now c.args.by.call c.args.by.number c.second_path-other.result.now _ c.moved_into-into.result _ c.second_path-other.ensures c.moved_into-into.ensures (c.in_ok-yes.ensures yes)
