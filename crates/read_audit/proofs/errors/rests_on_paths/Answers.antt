use Rattle.std.specs.Prelude.{List, ℕ}
use Rattle.read_audit.specs.Errors.{LeadsUpTo, RestsOn, paths_of}
use Rattle.read_audit.proofs.ErrorReplies.{on_first}
use Rattle.read_audit.proofs.errors.rests_on_paths.Goals as goal

pub returns-then-branch : goal.returns-then-branch
returns-then-branch c = λ _.
    on_first (paths_of c.args.error c.args.call.now) (λ (path : List (List ℕ)). LeadsUpTo c.args.run.now.script.now c.args.run.now.plans.now c.args.run.now.log.now c.args.run.now.bricks.now c.args.by.call c.args.by.number path (RestsOn c.args.run.now.script.now c.args.run.now.plans.now c.args.run.now.log.now c.args.run.now.bricks.now c.args.by.call c.args.by.number c.args.call.now c.args.error)) c.in-Some.path.now c.in-Some.ensures (c.in_ok-rests_on_path.ensures c.if-branch.true)
