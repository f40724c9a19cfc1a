use Rattle.std.proofs.Common.{◌≡◌, ◌+◌, take}
use Rattle.fop_types.specs.Replies.{is_ok}
use Rattle.run_report.specs.Summaries.{count_replies, is_app, is_io}
use Rattle.run_report.proofs.summaries.counts_of.Given as goal

abbrev pub invariant-loop-reply : goal.invariant-loop-reply
invariant-loop-reply l =
    (l.counts.ok ≡ count_replies is_ok (take l.reply-index l.replies)) × (l.counts.app ≡ count_replies is_app (take l.reply-index l.replies))
    × (l.counts.io ≡ count_replies is_io (take l.reply-index l.replies)) × (l.counts.ok + l.counts.app + l.counts.io ≡ l.reply-index)
