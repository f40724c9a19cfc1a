use Rattle.std.proofs.Common.{sym, ◌∙◌}
use Rattle.queue_index.specs.Queue.{item_at}
use Rattle.mount_locks.proofs.Rests.{kept_on, call_blocked, call_due}
use Rattle.mount_locks.proofs.walk.due_call.Goals as goal

pub returns-then-is_kept : goal.returns-then-is_kept
returns-then-is_kept c = call_blocked c.args.queue.now c.args.number (item_at c.args.number c.args.queue.now) c.in-Some.request.now c.in-Some.ensures (sym (kept_on c.is_kept.result _ c.in-Some.request.now c.args.number c.args.queue.now c.requires c.in-Some.ensures c.if-request.false c.as_slice-gfids.ensures c.is_kept.ensures) ∙ c.if-is_kept.true)

pub returns : goal.returns
returns c = call_due c.args.queue.now c.args.number (item_at c.args.number c.args.queue.now) c.in-Some.request.now c.in-Some.ensures c.if-request.false (sym (kept_on c.is_kept.result _ c.in-Some.request.now c.args.number c.args.queue.now c.requires c.in-Some.ensures c.if-request.false c.as_slice-gfids.ensures c.is_kept.ensures) ∙ c.if-is_kept.false)
