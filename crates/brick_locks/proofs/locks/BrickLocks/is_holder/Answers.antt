use Rattle.std.proofs.Common.{◌≡◌, sym, ap, ◌∙◌, cond, Bool, List, subst}
use Rattle.queue_index.specs.Queue.{items}
use Rattle.brick_locks.specs.declared.request.Request.{Request}
use Rattle.std.specs.List.{list_any}
use Rattle.brick_locks.proofs.Freeing.{holds_is}
use Rattle.brick_locks.proofs.locks.BrickLocks.is_holder.Goals as goal

pub returns : goal.returns
returns c = rw (← c.self.view_is) (holds_is c.args.owner c.owner_key.result c.self.inside.queue c.deref.result.now c.any_holds-held.result c.owner_key.ensures c.numbers_rise.ensures (c.deref.ensures.value ∙ c.in_ok-numbers.ensures) c.any_holds-held.ensures)
