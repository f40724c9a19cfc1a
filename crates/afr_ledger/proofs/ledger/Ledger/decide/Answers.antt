use Rattle.std.proofs.Common.{◌≤◌, ◌<◌, ℕ, length, subst, sym}
use Rattle.afr_ledger.specs.Ledger.{State}
use Rattle.afr_ledger.proofs.Room.{still_fits}
use Rattle.afr_ledger.proofs.Drawn.{numbers_without}
use Rattle.afr_ledger.proofs.ledger.Ledger.decide.Goals as goal

pub invariant_of-self : goal.invariant_of-self
invariant_of-self g c = record {
  numbers = rw c.remove.ensures (numbers_without (λ (n : ℕ). (1 ≤ n) × (n ≤ c.self.inside.drawn)) c.args.change c.self.inside.changes c.self.invariant.numbers);
  room = c.self.invariant.room;
}

pub invariant_of-self-2 : goal.invariant_of-self-2
invariant_of-self-2 g c = record {
  numbers = rw c.remove-2.ensures (numbers_without (λ (n : ℕ). (1 ≤ n) × (n ≤ c.self.inside.drawn)) c.args.change c.self.inside.changes c.self.invariant.numbers);
  room = rw c.in_ok-push.ensures.ok (still_fits c.self.inside.entries _ (subst (λ (s : State _). length s.history < 4294967295) (sym c.self.view_is) c.requires.room));
}
