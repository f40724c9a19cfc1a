use Rattle.std.proofs.Common.{◌≡◌, take, length}
use Rattle.line_audit.specs.Linked.{AreWindsNoted}
use Rattle.line_audit.proofs.last_uses.note_winds.Given as goal

abbrev pub invariant-loop-k : goal.invariant-loop-k
invariant-loop-k l = AreWindsNoted (take l.k l.winds) l.until.items × (length l.until.items ≡ length l.fn.until.items)
