use Rattle.std.proofs.Common.{ap, ◌∙◌, [], ◌∷◌}
use Rattle.afr_ledger.specs.code.Places.{owner}
use Rattle.afr_ledger.specs.Changes.{touching}
use Rattle.afr_ledger.proofs.Least.{owner_is}
use Rattle.afr_ledger.proofs.changes.Changes.owner.Goals as goal

pub returns : goal.returns
returns g c =
    c.copied.ensures ∙ c.get.ensures.value
    ∙ owner_is g.C.Ord.cmp c.args.set c.args.cell c.self.inside.held.entries (owner g.C.Ord.cmp c.self.inside.places c.args.set c.args.cell) c.self.invariant.rising (λ n. c.self.invariant.entered n c.args.set c.args.cell)
    ∙ ap (touching g.C.Ord.cmp c.args.set (c.args.cell ∷ [])) c.self.view_is
