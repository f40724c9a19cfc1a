use Rattle.std.proofs.Common.{sym, ◌∙◌, map}
use Rattle.line_audit.proofs.Linking.{next_put}
use Rattle.line_audit.proofs.lines_sent.by_event.Goals as goal

pub loop-k-preserved : goal.loop-k-preserved
loop-k-preserved c = (
  next_put c.args.log.now.sent c.loop-k.k c.in-Some.line.now c.in_ok-item.item (map (λ q. q.items) c.loop-k.lists.items) (map (λ q. q.items) c.put.new.lists.items) (sym c.in-Some.ensures) c.in_ok-item.ensures c.loop-k.invariant.0
      (c.in_ok-put.ensures.sound c.if-not-branch.false),
  c.in_ok-put.ensures.many ∙ c.loop-k.invariant.1,
)
