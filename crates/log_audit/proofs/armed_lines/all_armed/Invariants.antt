use Rattle.std.specs.Prelude.{◌≡◌, ℕ, Some, length, slice_get}
use Rattle.log_audit.specs.Armed.{AreArmedFrom, AreAllArmed, IsAmong}
use Rattle.log_audit.specs.declared.armed_lines.ArmedLines.{ArmedLines}
use Rattle.log_audit.proofs.armed_lines.all_armed.Given as goal

abbrev pub invariant-loop-at : goal.invariant-loop-at
invariant-loop-at l = AreAllArmed l.sent l.all.items × (length l.all.items ≡ l.at) × AreArmedFrom l.sent l.at l.armed × ((k : ℕ) (a : ArmedLines) → slice_get l.all.items k ≡ Some a → IsAmong l.sent k a)
