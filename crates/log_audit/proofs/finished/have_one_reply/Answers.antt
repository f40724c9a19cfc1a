use Rattle.std.proofs.Common.{sym, ap, ◌∙◌}
use Rattle.log_audit.specs.Replied.{all_seen}
use Rattle.log_audit.proofs.Seen.{next_seen, have_one, unseen_next, all_are_seen}
use Rattle.log_audit.proofs.finished.have_one_reply.Goals as goal

pub loop-reply-preserved : goal.loop-reply-preserved
loop-reply-preserved c =
    next_seen c.args.calls c.args.replies.now c.loop-reply.reply-index c.reply-item.result c.loop-reply.seen.items c.see.new.seen.items c.loop-reply-test.true c.reply-item.is c.loop-reply.invariant
    (c.see.ensures.sound c.if-not-see.false)

pub returns : goal.returns
returns c = (
  λ yes. have_one c.args.calls c.args.replies.now c.loop-reply.reply-index c.loop-reply.seen.items (c.are_as_many.ensures.0 c.if-not-are_as_many.false) c.loop-reply-test.false c.loop-reply.invariant
      (ap all_seen (sym c.as_slice.ensures.value) ∙ sym c.are_all.ensures ∙ yes),
  λ have. c.are_all.ensures ∙ ap all_seen c.as_slice.ensures.value ∙ all_are_seen c.args.calls c.args.replies.now c.loop-reply.reply-index c.loop-reply.seen.items c.loop-reply-test.false c.loop-reply.invariant have,
)

pub returns-then-not-see : goal.returns-then-not-see
returns-then-not-see c = (
  λ no. absurd cc,
  λ have. sym c.if-not-see.true
      ∙ c.see.ensures.complete (unseen_next c.args.calls c.args.replies.now c.loop-reply.reply-index c.reply-item.result c.loop-reply.seen.items c.loop-reply-test.true c.reply-item.is c.loop-reply.invariant have),
)
