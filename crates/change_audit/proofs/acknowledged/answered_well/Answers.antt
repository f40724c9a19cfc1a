use Rattle.std.proofs.Common.{sym, subst, ◌∙◌}
use Rattle.std.specs.Prelude.{ℕ, List, Option}
use Rattle.change_audit.specs.Acknowledged.{AreMarked, AreOfReplies}
use Rattle.change_audit.proofs.Marking.{marked_next, marked_all, of_replies_next, call_beyond}
use Rattle.change_audit.proofs.acknowledged.answered_well.Goals as goal

pub loop-reply-preserved : goal.loop-reply-preserved
loop-reply-preserved c = record {
  marked =
      marked_next c.args.replies.now c.loop-reply.reply-index c.reply-item.result c.loop-reply.marks.items c.mark.new.marks.items c.loop-reply-test.true c.reply-item.is c.mark.ensures.keeps
      (c.mark.ensures.marked c.if-not-mark.false) c.loop-reply.invariant.marked;
  own = of_replies_next c.args.replies.now c.loop-reply.reply-index c.reply-item.result c.loop-reply.marks.items c.mark.new.marks.items c.loop-reply-test.true c.reply-item.is c.mark.ensures.only c.loop-reply.invariant.own;
  long = c.mark.ensures.long ∙ c.loop-reply.invariant.long;
}

pub returns-then-not-mark-clause-none : goal.returns-then-not-mark-clause-none
returns-then-not-mark-clause-none c =
    call_beyond c.args.replies.now c.loop-reply.reply-index c.args.bound c.reply-item.result c.loop-reply.marks.items c.loop-reply-test.true c.reply-item.is c.loop-reply.invariant.long (c.mark.ensures.room c.if-not-mark.true)

pub returns-clause-marked : goal.returns-clause-marked
returns-clause-marked c =
    subst (λ (marks : List (Option ℕ)). AreMarked c.args.replies.now marks) (sym c.from_vec.ensures)
    (marked_all c.args.replies.now c.loop-reply.reply-index c.loop-reply.marks.items c.loop-reply-test.false c.loop-reply.invariant.marked)

pub returns-clause-own : goal.returns-clause-own
returns-clause-own c = subst (λ (marks : List (Option ℕ)). AreOfReplies c.args.replies.now marks) (sym c.from_vec.ensures) c.loop-reply.invariant.own
