use Rattle.std.proofs.Common.{◌≡◌, ◌+◌, drop}
use Rattle.script_commands.specs.Checks.{calls_in}
use Rattle.script_commands.proofs.checks.count_calls.Given as goal

abbrev pub invariant-loop-phase : goal.invariant-loop-phase
invariant-loop-phase l = l.count + calls_in (drop l.phase-index l.phases) ≡ calls_in l.phases
