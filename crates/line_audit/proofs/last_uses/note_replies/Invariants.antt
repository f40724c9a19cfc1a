use Rattle.std.proofs.Common.{◌≡◌, take, length}
use Rattle.line_audit.specs.Linked.{AreUsesNoted}
use Rattle.line_audit.proofs.last_uses.note_replies.Given as goal

abbrev pub invariant-loop-k : goal.invariant-loop-k
invariant-loop-k l = AreUsesNoted l.log (take l.k l.replies) l.until.items × (length l.until.items ≡ length l.fn.until.items)
