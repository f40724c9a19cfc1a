use Rattle.queue_index.specs.Next.{follows_at}
use Rattle.queue_index.proofs.Contention.{put_first, put_all, set_start}
use Rattle.queue_index.proofs.Following.{next_start}
use Rattle.queue_index.proofs.next.find_next.Goals as goal

pub loop-number-init : goal.loop-number-init
loop-number-init g c = λ q. set_start c.new-found.result q _ _ c.new-found.ensures.empty (next_start g.T.Keyed.keys c.args.key q c.args.queue.now c.numbers_rise.ensures)

pub loop-number-preserved : goal.loop-number-preserved
loop-number-preserved g c = λ q. put_first (follows_at g.T.Keyed.keys c.args.queue.now q) c.in-Some.number _ _ _ _ _ c.in-Some.ensures.found (c.in_ok-add_next_after.ensures q) (c.loop-number.invariant q)

pub returns-clause-found : goal.returns-clause-found
returns-clause-found g c = λ q. put_all (follows_at g.T.Keyed.keys c.args.queue.now q) _ _ _ c.in_default.ensures.none (c.loop-number.invariant q)
