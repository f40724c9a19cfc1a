use Rattle.std.proofs.Common.{◌≡◌, ◌++◌, ◌+◌, drop, map}
use Rattle.run_audit.proofs.numbers.add_replied.Given as goal

abbrev pub invariant-loop-reply : goal.invariant-loop-reply
invariant-loop-reply l = l.numbers ++ map (λ r. r.event) (drop l.reply-index l.replies) ≡ l.fn.numbers ++ map (λ r. r.event) l.replies
