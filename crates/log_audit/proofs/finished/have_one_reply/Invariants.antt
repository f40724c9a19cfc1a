use Rattle.std.proofs.Common.{take}
use Rattle.log_audit.specs.Replied.{AreSeen}
use Rattle.log_audit.proofs.finished.have_one_reply.Given as goal

abbrev pub invariant-loop-reply : goal.invariant-loop-reply
invariant-loop-reply l = AreSeen l.calls (take l.reply-index l.replies) l.seen.items
