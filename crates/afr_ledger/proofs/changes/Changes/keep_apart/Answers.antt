use Rattle.afr_ledger.proofs.Apart.{kept}
use Rattle.afr_ledger.proofs.changes.Changes.keep_apart.Goals as goal

pub returns : goal.returns
returns g c = rw (← c.self.view_is) (kept g.C.Ord.cmp c.self.inside.held.entries c.self.inside.places c.self.invariant)
