use Rattle.std.specs.Prelude.{ℕ, ◌≡◌, ◌<◌, Some, slice_get}
use Rattle.run_audit.specs.Noted.{IsWithin}
use Rattle.log_audit.specs.declared.calls_made.CallMade.{CallMade}
use Rattle.run_audit.proofs.call_phases.are_in_phases.Given as goal

abbrev pub invariant-loop-k : goal.invariant-loop-k
invariant-loop-k l = (i : ℕ) (call : CallMade) → i < l.k → slice_get l.calls i ≡ Some call → IsWithin l.ended l.last call.phase call.event
