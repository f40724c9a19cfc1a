use Rattle.std.proofs.Common.{◌≡◌, map, take}
use Rattle.mount_log.specs.Submissions.{reply_of}
use Rattle.log_replay.proofs.replies.replies_in.Given as goal

abbrev pub invariant-loop-line : goal.invariant-loop-line
invariant-loop-line l = l.replies.items ≡ map reply_of (take l.line-index l.lines)
