use Rattle.std.proofs.Common.{refl, ap, ◌∙◌, ◌+◌, ◌++◌, drop, map, append_assoc}
use Rattle.std.specs.Prelude.{ℕ, List, [], ◌∷◌}
use Rattle.mount_log.specs.declared.logs.ReplyLine.{ReplyLine}
use Rattle.mount_log.proofs.Lists.{grown_by}
use Rattle.run_audit.proofs.numbers.add_replied.Goals as goal

pub loop-reply-preserved : goal.loop-reply-preserved
loop-reply-preserved c =
    let rest = map (λ (r : ReplyLine). r.event) (drop (c.loop-reply.reply-index + 1) c.args.replies.now) in
    grown_by (map (λ (r : ReplyLine). r.event)) c.args.replies.now c.args.replies.now c.loop-reply.reply-index c.reply-item.result c.loop-reply.numbers c.push.new.self rest (c.args.numbers.now ++ map (λ (r : ReplyLine). r.event) c.args.replies.now)
    refl c.loop-reply-test.true c.reply-item.is (ap (λ (l : List ℕ). l ++ rest) c.in_ok-push.ensures.ok ∙ append_assoc c.loop-reply.numbers _ rest) c.loop-reply.invariant
