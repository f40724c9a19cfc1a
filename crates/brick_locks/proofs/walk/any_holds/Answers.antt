use Rattle.std.proofs.Common.{arith, sym, ap, ◌∙◌, not, Bool}
use Rattle.queue_index.specs.Queue.{items, before, item_at, is_at_number}
use Rattle.brick_locks.specs.Walks.{waits}
use Rattle.brick_locks.proofs.Rests.{any_skip, any_hit}
use Rattle.brick_locks.proofs.walk.any_holds.Goals as goal

pub returns-then-is_held : goal.returns-then-is_held
returns-then-is_held c = any_hit (is_at_number (λ n r. not (waits c.args.queue.now n r)) c.args.queue.now) c.args.numbers.now c.loop-number.number-index _ _ (omega arith) (sym c.is_held.ensures ∙ c.if-is_held.true) c.loop-number.invariant

pub loop-number-preserved : goal.loop-number-preserved
loop-number-preserved c = any_skip (is_at_number (λ n r. not (waits c.args.queue.now n r)) c.args.queue.now) c.args.numbers.now c.loop-number.number-index _ _ (omega arith) (sym c.is_held.ensures ∙ c.if-is_held.false) c.loop-number.invariant
