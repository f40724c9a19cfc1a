use Rattle.std.proofs.Common.{ap, ◌∙◌, List, ℕ}
use Rattle.queue_index.specs.Queue.{item_at}
use Rattle.mount_locks.specs.declared.request.Request.{Request}
use Rattle.mount_locks.specs.Walks.{call_at}
use Rattle.mount_locks.proofs.Rests.{some_turn}
use Rattle.mount_locks.proofs.Passed.{turn_unpassed}
use Rattle.mount_locks.proofs.walk.give_turn.Goals as goal

pub returns-clause-unpassed : goal.returns-clause-unpassed
returns-clause-unpassed c = turn_unpassed c.args.queue.now c.grant.new.self c.args.number c.numbers_rise.ensures c.requires
    (c.grant.ensures ∙ some_turn c.args.queue.now c.args.number c.in-Some.call (item_at c.args.number c.args.queue.now) (c.in-Some.ensures ∙ ap (λ (l : List (ℕ × Request)). call_at l c.args.number) c.requests.ensures.value))
