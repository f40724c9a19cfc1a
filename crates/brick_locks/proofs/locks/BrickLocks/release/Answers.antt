use Rattle.std.proofs.Common.{◌≡◌, sym, ap, ◌∙◌, cond, Bool, List, not, [], filter}
use Rattle.queue_index.specs.Queue.{items, touches}
use Rattle.brick_locks.specs.Keys.{keys_of}
use Rattle.brick_locks.specs.Locks.{owners, gone, freed}
use Rattle.brick_locks.specs.Leaving.{other_owner}
use Rattle.brick_locks.specs.declared.request.Request.{Request}
use Rattle.brick_locks.specs.declared.owner.Owner.{Owner}
use Rattle.brick_locks.proofs.Freeing.{owner_stays}
use Rattle.brick_locks.proofs.Holders.{release_holders}
use Rattle.brick_locks.proofs.locks.BrickLocks.release.Goals as goal

pub returns-then-holds-clause-left : goal.returns-then-holds-clause-left
returns-then-holds-clause-left c =
    c.in_ok-dropped.ensures.left
    ∙ ap (λ (st : Request → Bool). filter st c.args.self.now) (owner_stays c.args.owner c.owner_key.result c.owner_key.ensures)
    ∙ ap (λ (b : Bool). cond b (filter (other_owner c.args.owner) c.args.self.now) c.args.self.now) (sym c.if-holds.true ∙ c.in_ok-holds.ensures)

pub returns-then-holds-clause-granted : goal.returns-then-holds-clause-granted
returns-then-holds-clause-granted c =
    c.in_ok-dropped.ensures.granted
    ∙ ap (λ (st : Request → Bool). owners (freed st c.args.self.now)) (owner_stays c.args.owner c.owner_key.result c.owner_key.ensures)
    ∙ ap (λ (b : Bool). cond b (owners (freed (other_owner c.args.owner) c.args.self.now)) []) (sym c.if-holds.true ∙ c.in_ok-holds.ensures)

pub returns-then-holds-clause-holders : goal.returns-then-holds-clause-holders
returns-then-holds-clause-holders c = release_holders c.args.owner c.args.self.now _ _ (returns-then-holds-clause-left c) (returns-then-holds-clause-granted c)
