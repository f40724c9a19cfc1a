use Rattle.std.proofs.Common.{◌≡◌, drop}
use Rattle.script_commands.specs.Plans.{plans_of}
use Rattle.script_commands.proofs.plans.put_plans.Given as goal

abbrev pub invariant-loop-named : goal.invariant-loop-named
invariant-loop-named l = plans_of l.plans (drop l.named-index l.volfiles) l.bricks ≡ plans_of l.initial.plans l.volfiles l.bricks
