use Rattle.std.proofs.Common.{◌≡◌, ap, ◌∙◌, refl, None, sym}
use Rattle.afr_ledger.specs.Changes.{numbered, touching}
use Rattle.afr_ledger.proofs.Apart.{named_more, named_same}
use Rattle.afr_ledger.proofs.Places.{free, entered_more, entered_back, entered_same}
use Rattle.afr_ledger.proofs.changes.Changes.insert.Goals as goal

pub add_places-requires : goal.add_places-requires
add_places-requires g c =
    λ s cell h. free g.C.Ord.cmp g.met.C.Ord.total c.args.u.set c.args.u.cells c.self.inside.held.entries c.self.inside.places c.self.invariant.entered
    (ap (touching g.C.Ord.cmp c.args.u.set c.args.u.cells) c.self.view_is ∙ c.requires.apart) s cell (rw c.as_slice.ensures at h)

pub invariant_of-self-in-Ok : goal.invariant_of-self-in-Ok
invariant_of-self-in-Ok g c =
    record {
      rising = c.in-Ok.ensures.ordered;
      named = named_more c.self.inside.held.entries c.insert.new.self.entries c.args.u.change c.args.u refl c.self.invariant.named c.in-Ok.ensures.updates.0;
      entered = entered_more g.C.Ord.cmp g.met.C.Ord.total c.self.inside.held.entries c.insert.new.self.entries c.self.inside.places c.add_places.new.places c.args.u.change c.args.u c.self.invariant.entered
          (ap (numbered c.args.u.change) c.self.view_is ∙ c.requires.new)
          (ap (touching g.C.Ord.cmp c.args.u.set c.args.u.cells) c.self.view_is ∙ c.requires.apart)
          (λ s cell. rw c.as_slice.ensures at (c.in_ok-add_places.ensures.ok s cell))
          c.in-Ok.ensures.updates.0;
    }

pub invariant_of-self-in-Err : goal.invariant_of-self-in-Err
invariant_of-self-in-Err g c =
    record {
      rising = c.in-Err.ensures.ordered;
      named = named_same c.self.inside.held.entries c.insert.new.self.entries c.in-Err.ensures.err c.self.invariant.named;
      entered = entered_back g.C.Ord.cmp g.met.C.Ord.total c.self.inside.held.entries c.insert.new.self.entries c.self.inside.places c.add_places.new.places c.remove_places.new.places c.args.u.change c.args.u c.in-Err.failed.value.1 c.self.invariant.entered
          (ap (touching g.C.Ord.cmp c.args.u.set c.args.u.cells) c.self.view_is ∙ c.requires.apart)
          (ap (λ p. p.1) c.in-Err.ensures.value_returned)
          c.in-Err.ensures.err
          (λ s cell. rw c.as_slice.ensures at (c.in_ok-add_places.ensures.ok s cell))
          (λ s cell. rw c.as_slice-in-Err.ensures at (c.remove_places.ensures s cell));
    }
