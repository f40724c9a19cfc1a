use Rattle.std.proofs.Common.{refl, ap}
use Rattle.frame_driver.proofs.Leading.{leads_same, leads_still, leads_wound}
use Rattle.frame_driver.proofs.board.Board.open_wind.Goals as goal

pub returns-clause-opened : goal.returns-clause-opened
returns-clause-opened g c = record {
  there = c.requires.open;
  free = c.requires.slot;
  left = λ full. let none = c.in_ok-wind.ensures.winds.1 full in absurd cc;
  wound = c.in_ok-wind.ensures.wound;
  awaits = c.in_ok-wind.ensures.awaits;
  openers = c.in_ok-wind.ensures.openers;
  pending = c.in_ok-wind.ensures.pending;
  rest = refl;
}

pub returns-clause-leads : goal.returns-clause-leads
returns-clause-leads g c = leads_wound c.args.place c.args.frame c.args.slot c.args.self.now _ c.in_ok-wind.wind c.requires.home (returns-clause-opened g c)

pub returns-in_err-wind-clause-leads : goal.returns-in_err-wind-clause-leads
returns-in_err-wind-clause-leads g c = leads_still c.args.self.now _ refl c.in_err-wind.ensures.err

pub returns-then-not-has_room-clause-leads : goal.returns-then-not-has_room-clause-leads
returns-then-not-has_room-clause-leads g c = leads_same c.args.self.now
