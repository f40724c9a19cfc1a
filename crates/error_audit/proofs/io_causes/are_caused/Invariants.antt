use Rattle.std.proofs.Common.{take}
use Rattle.std.specs.List.{AllByRecursion}
use Rattle.mount_log.specs.Causes.{IsCaused}
use Rattle.mount_log.specs.declared.logs.ReplyLine.{ReplyLine}
use Rattle.error_audit.proofs.io_causes.are_caused.Given as goal

abbrev pub invariant-loop-reply : goal.invariant-loop-reply
invariant-loop-reply l = AllByRecursion (λ (r : ReplyLine). IsCaused l.script l.plans l.log r r.answer) (take l.reply-index l.replies)
