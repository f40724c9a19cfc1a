use Rattle.std.proofs.Common.{sym}
use Rattle.std.proofs.lemmas.Option.{IfSome_then}
use Rattle.read_audit.proofs.Resting.{not_due, in_time}
use Rattle.read_audit.proofs.taken.rests_in_time.Goals as goal

pub returns-in_default : goal.returns-in_default
returns-in_default c = not_due c.args.run.now.script.now c.args.run.now.plans.now c.args.run.now.log.now c.args.run.now.bricks.now c.args.ops.now c.args.marks.now c.args.call c.args.operation.now _ c.requires.marks (sym c.in_default.ensures)

pub returns : goal.returns
returns c =
    IfSome_then c.in_ok-from.from c.in_ok-from.ensures
    (λ from rests. in_time c.args.run.now.script.now c.args.run.now.plans.now c.args.run.now.log.now c.args.run.now.bricks.now c.args.ops.now c.args.marks.now c.args.call c.in-Some.number c.args.operation.now from.set c.requires.marks (sym c.in-Some.ensures) rests)
