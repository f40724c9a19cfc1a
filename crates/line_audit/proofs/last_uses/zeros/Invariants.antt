use Rattle.std.proofs.Common.{◌≡◌, length}
use Rattle.line_audit.specs.Linked.{AreZeros}
use Rattle.line_audit.proofs.last_uses.zeros.Given as goal

abbrev pub invariant-loop : goal.invariant-loop
invariant-loop l = AreZeros l.until.items × (length l.until.items ≡ l.counter)
