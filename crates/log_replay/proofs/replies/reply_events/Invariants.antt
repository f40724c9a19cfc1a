use Rattle.std.proofs.Common.{◌-◌, length, drop}
use Rattle.log_replay.specs.Events.{HasReplyEvents}
use Rattle.log_replay.proofs.replies.reply_events.Given as goal

abbrev pub invariant-loop-back : goal.invariant-loop-back
invariant-loop-back l = HasReplyEvents l.count (drop (length l.lines - l.back) l.lines) l.events.items
