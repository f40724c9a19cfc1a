use Rattle.std.proofs.Common.{◌≡◌, drop}
use Rattle.script_commands.specs.Plans.{after_phases}
use Rattle.script_commands.proofs.plans.follow_phases.Given as goal

abbrev pub invariant-loop-phase : goal.invariant-loop-phase
invariant-loop-phase l = after_phases l.plans l.newest (drop l.phase-index l.phases) ≡ after_phases l.plans l.first l.phases
