use Rattle.std.proofs.Common.{◌≡◌, sym, ap, ◌∙◌, cond, Bool, List, subst}
use Rattle.queue_index.specs.Queue.{items}
use Rattle.brick_locks.specs.declared.request.Request.{Request}
use Rattle.brick_locks.proofs.Freeing.{all_gone}
use Rattle.brick_locks.proofs.locks.BrickLocks.drop_all.Goals as goal

pub returns-clause-gone : goal.returns-clause-gone
returns-clause-gone c = rw (← c.self.view_is) (all_gone c.self.inside.queue c.deref.result.now c.in_ok-gone.gone c.numbers_rise.ensures (c.deref.ensures.value ∙ c.in_ok-numbers.ensures) c.in_ok-gone.ensures)
