use Rattle.std.specs.Prelude.{ℕ, ◌≡◌, ◌<◌, Some, slice_get}
use Rattle.script_lang.specs.declared.scripts.ControlLine.{ControlLine}
use Rattle.run_audit.specs.Controlled.{IsFound}
use Rattle.run_audit.proofs.carried.are_controls_carried.Given as goal

abbrev pub invariant-loop-at : goal.invariant-loop-at
invariant-loop-at l = (i : ℕ) (c : ControlLine) → i < l.at → slice_get l.controls i ≡ Some c → IsFound l.log l.tables l.notes l.phase i c (slice_get l.carried i)
