use Rattle.std.proofs.Common.{◌≤◌, ℕ, subst, sym}
use Rattle.afr_ledger.specs.Ledger.{State}
use Rattle.afr_ledger.proofs.Drawn.{numbers_with}
use Rattle.afr_ledger.proofs.ledger.Ledger.begin.Goals as goal

pub invariant_of-self-2 : goal.invariant_of-self-2
invariant_of-self-2 g c = record {
  numbers = rw c.in_ok-insert.ensures.ok (numbers_with (λ (n : ℕ). (1 ≤ n) × (n ≤ c.self.inside.drawn)) c.args.u.change c.args.u c.self.inside.changes (subst (λ (s : State _). (1 ≤ c.args.u.change) × (c.args.u.change ≤ s.drawn)) (sym c.self.view_is) c.requires.drawn) c.self.invariant.numbers);
  room = c.self.invariant.room;
}
