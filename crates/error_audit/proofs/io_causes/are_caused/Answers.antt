use Rattle.std.proofs.Common.{◌≡◌, sym, subst, ◌∙◌}
use Rattle.std.specs.Prelude.{true, false}
use Rattle.mount_log.specs.declared.logs.ReplyLine.{ReplyLine}
use Rattle.error_audit.specs.Finding.{IsReplyFound}
use Rattle.error_audit.proofs.Different.{all_read}
use Rattle.error_audit.proofs.io_causes.are_caused.Goals as goal

pub returns-then-not-branch-clause-complete : goal.returns-then-not-branch-clause-complete
returns-then-not-branch-clause-complete c = λ all.
    let Found = λ (r : ReplyLine). IsReplyFound c.args.script.now c.args.plans.now c.args.log.now c.args.tables.now r r.answer in
    let own = all_read Found c.args.replies.now c.loop-reply.reply-index c.reply-item.result c.loop-reply-test.true all in
    sym c.if-not-branch.true ∙ c.in_ok-is_caused.ensures.complete (subst Found (sym c.reply-item.is) own)
