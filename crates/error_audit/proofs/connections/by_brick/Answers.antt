use Rattle.std.proofs.Common.{◌≡◌, map}
use Rattle.error_audit.proofs.Openings.{next_put, all_put}
use Rattle.error_audit.proofs.connections.by_brick.Goals as goal

pub loop-k-preserved : goal.loop-k-preserved
loop-k-preserved c = (
  c.in_ok-put.ensures.many,
  next_put c.args.openings.now c.loop-k.k _ (map (λ q. q.items) c.loop-k.lists.items) (map (λ q. q.items) c.put.new.lists.items) c.loop-k-test.true c.loop-k.invariant.1 c.in_ok-put.ensures.put,
)

pub returns : goal.returns
returns c = all_put c.args.openings.now c.loop-k.k (map (λ q. q.items) c.loop-k.lists.items) c.loop-k-test.false c.loop-k.invariant.1
