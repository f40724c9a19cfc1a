use Rattle.std.proofs.Common.{ap, ◌∙◌, sym}
use Rattle.afr_ledger.proofs.Apart.{named_less}
use Rattle.afr_ledger.proofs.Places.{entered_less}
use Rattle.afr_ledger.proofs.changes.Changes.remove.Goals as goal

pub invariant_of-self-2 : goal.invariant_of-self-2
invariant_of-self-2 g c =
    record {
      rising = c.remove.ensures.ordered;
      named = named_less c.self.inside.held.entries c.remove.new.self.entries c.args.change c.self.invariant.named c.remove.ensures.updates.0;
      entered = entered_less g.C.Ord.cmp g.met.C.Ord.total c.self.inside.held.entries c.remove.new.self.entries c.self.inside.places c.remove_places.new.places c.args.change c.in-Some.u c.self.invariant.entered
          (sym c.remove.ensures.value ∙ c.in-Some.is)
          (λ s cell. rw c.as_slice.ensures at (c.remove_places.ensures s cell))
          c.remove.ensures.updates.0;
    }
