use Rattle.std.proofs.Common.{◌≡◌, sym, ap, ◌∙◌, cond, Bool, List, not, [], filter}
use Rattle.queue_index.specs.Queue.{items, touches}
use Rattle.brick_locks.specs.Keys.{keys_of}
use Rattle.brick_locks.specs.Locks.{owners, gone, freed}
use Rattle.brick_locks.specs.declared.request.Request.{Request}
use Rattle.brick_locks.specs.declared.owner.Owner.{Owner}
use Rattle.brick_locks.proofs.Freeing.{graph_stays}
use Rattle.brick_locks.proofs.Holders.{graph_holders}
use Rattle.brick_locks.proofs.locks.BrickLocks.drop_graph.Goals as goal

pub returns-clause-left : goal.returns-clause-left
returns-clause-left c = c.in_ok-dropped.ensures.left ∙ ap (λ (st : Request → Bool). filter st c.args.self.now) (graph_stays c.args.graph c.graph_key.result c.graph_key.ensures)

pub returns-clause-gone : goal.returns-clause-gone
returns-clause-gone c = c.in_ok-dropped.ensures.gone ∙ ap (λ (st : Request → Bool). owners (gone st c.args.self.now)) (graph_stays c.args.graph c.graph_key.result c.graph_key.ensures)

pub returns-clause-granted : goal.returns-clause-granted
returns-clause-granted c = c.in_ok-dropped.ensures.granted ∙ ap (λ (st : Request → Bool). owners (freed st c.args.self.now)) (graph_stays c.args.graph c.graph_key.result c.graph_key.ensures)

pub returns-clause-holders : goal.returns-clause-holders
returns-clause-holders c = graph_holders c.args.graph c.args.self.now _ _ (returns-clause-left c) (returns-clause-granted c)
