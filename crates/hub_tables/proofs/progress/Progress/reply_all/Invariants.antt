use Rattle.std.proofs.Common.{◌≡◌, drop}
use Rattle.hub_tables.specs.Sessions.{first_line, after_replies}
use Rattle.hub_tables.proofs.progress.Progress.reply_all.Given as goal

abbrev pub invariant-loop-reply : goal.invariant-loop-reply
invariant-loop-reply l = after_replies (first_line l.lines) l.self (drop l.reply-index l.replies) ≡ after_replies (first_line l.lines) l.fn.self l.replies
