use Rattle.std.proofs.Common.{take}
use Rattle.std.specs.List.{AllByRecursion}
use Rattle.error_audit.specs.IoCauses.{IsPlain}
use Rattle.mount_log.specs.declared.logs.ReplyLine.{ReplyLine}
use Rattle.error_audit.proofs.io_causes.are_plain.Given as goal

abbrev pub invariant-loop-reply : goal.invariant-loop-reply
invariant-loop-reply l = AllByRecursion (λ (r : ReplyLine). IsPlain r.answer) (take l.reply-index l.replies)
