use Rattle.dht_linkto.proofs.Followed.{followed}
use Rattle.dht_linkto.proofs.lookup.Lookup.follow.Goals as goal

pub returns-in-Some-clause-state : goal.returns-in-Some-clause-state
returns-in-Some-clause-state c =
    followed _ _ _ _ _ _ _ _ _ _ _ c.self.view_is c.requires c.self.invariant.unlinked c.in-Some.ensures.some
