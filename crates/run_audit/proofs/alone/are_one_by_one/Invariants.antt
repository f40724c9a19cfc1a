use Rattle.std.specs.Prelude.{ℕ, ◌≡◌, ◌<◌, ◌-◌, Some, slice_get}
use Rattle.run_audit.specs.CallPhases.{AreReplied}
use Rattle.log_audit.specs.declared.calls_made.CallMade.{CallMade}
use Rattle.run_audit.proofs.alone.are_one_by_one.Given as goal

abbrev pub invariant-loop-n : goal.invariant-loop-n
invariant-loop-n l = (i : ℕ) (call : CallMade) → i < l.n → slice_get l.calls i ≡ Some call → AreReplied l.log l.calls call.session i (call.event - 1)
