use Rattle.std.proofs.Common.{arith, sym, ap, ◌∙◌, not, Bool}
use Rattle.queue_index.specs.Queue.{items, before, item_at, is_at_number}
use Rattle.brick_locks.specs.Walks.{waits}
use Rattle.brick_locks.proofs.Rests.{kept_is, owner_yes, owner_no}
use Rattle.brick_locks.proofs.walk.holder.Goals as goal

pub returns-then-is_kept : goal.returns-then-is_kept
returns-then-is_kept c = owner_no (λ n r. not (waits c.args.queue.now n r)) c.args.number (item_at c.args.number c.args.queue.now) c.in-Some.request.now c.in-Some.ensures (ap not (sym (kept_is c.is_kept.result _ c.in-Some.request.now (items (before c.args.number c.args.queue.now)) c.as_slice.ensures c.is_kept.ensures) ∙ c.if-is_kept.true))

pub returns : goal.returns
returns c = owner_yes (λ n r. not (waits c.args.queue.now n r)) c.args.number (item_at c.args.number c.args.queue.now) c.in-Some.request.now c.in-Some.ensures (ap not (sym (kept_is c.is_kept.result _ c.in-Some.request.now (items (before c.args.number c.args.queue.now)) c.as_slice.ensures c.is_kept.ensures) ∙ c.if-is_kept.false))
