use Rattle.std.proofs.Common.{◌≡◌, drop, map}
use Rattle.mount_log.specs.Ties.{do_rise}
use Rattle.line_audit.proofs.in_time.replies_rise.Given as goal

abbrev pub invariant-loop-reply : goal.invariant-loop-reply
invariant-loop-reply l = do_rise l.floor l.last (map (λ x. x.event) (drop l.reply-index l.replies)) ≡ do_rise 1 l.last (map (λ x. x.event) l.replies)
