use Rattle.std.proofs.Common.{subst, ◌∙◌}
use Rattle.std.specs.Prelude.{List}
use Rattle.mount_log.specs.declared.logs.ReplyLine.{ReplyLine}
use Rattle.line_audit.specs.Linked.{AreUsesNoted}
use Rattle.line_audit.proofs.Lasting.{replies_next, replies_all}
use Rattle.line_audit.proofs.last_uses.note_replies.Goals as goal

pub loop-k-preserved : goal.loop-k-preserved
loop-k-preserved c = (
  replies_next c.args.log.now c.as_slice-replies.result.now c.loop-k.k c.index-replies-k.result c.index-replies-k.result c.loop-k.until.items c.note_reply.new.until.items c.loop-k-test.true c.index-replies-k.is
      c.loop-k.invariant.0 (c.note_reply.ensures.sound c.args.log.now c.requires.calls c.if-not-note_reply.false),
  c.note_reply.ensures.many ∙ c.loop-k.invariant.1,
)

pub returns-clause-sound : goal.returns-clause-sound
returns-clause-sound c = λ _.
    subst (λ (l : List ReplyLine). AreUsesNoted c.args.log.now l c.loop-k.until.items) c.as_slice-replies.ensures
    (replies_all c.args.log.now c.as_slice-replies.result.now c.loop-k.k c.loop-k.until.items c.loop-k-test.false c.loop-k.invariant.0)
