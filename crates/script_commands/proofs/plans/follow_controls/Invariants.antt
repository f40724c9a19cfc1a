use Rattle.std.proofs.Common.{◌≡◌, drop}
use Rattle.script_commands.specs.Plans.{after_controls}
use Rattle.script_commands.proofs.plans.follow_controls.Given as goal

abbrev pub invariant-loop-control : goal.invariant-loop-control
invariant-loop-control l = after_controls l.plans l.newest (drop l.control-index l.controls) ≡ after_controls l.plans l.first l.controls
