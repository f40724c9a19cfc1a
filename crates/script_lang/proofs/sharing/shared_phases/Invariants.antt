use Rattle.std.proofs.Common.{◌≡◌}
use Rattle.script_lang.proofs.sharing.shared_phases.Given as goal

abbrev pub invariant-loop-phase : goal.invariant-loop-phase
invariant-loop-phase l = l.shared ≡ l.yielded
