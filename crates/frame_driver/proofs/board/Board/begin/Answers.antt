use Rattle.std.proofs.Common.{◌+◌, refl, ap}
use Rattle.frame_driver.proofs.Leading.{leads_same, leads_still, leads_opened}
use Rattle.frame_driver.proofs.board.Board.begin.Goals as goal

pub returns-clause-opened : goal.returns-clause-opened
returns-clause-opened g c = record {
  inserted = c.in_ok-frame.ensures.opened;
  rest = ap (λ s. record c.args.self.now { stack = s; frames = c.args.self.now.frames + 1 }) c.in_ok-frame.ensures.rest;
}

pub returns-clause-leads : goal.returns-clause-leads
returns-clause-leads g c = leads_opened c.args.place c.in_ok-frame.frame c.args.self.now _ c.requires.home c.requires.parent (returns-clause-opened g c)

pub returns-in_err-frame-clause-leads : goal.returns-in_err-frame-clause-leads
returns-in_err-frame-clause-leads g c = leads_still c.args.self.now _ refl c.in_err-frame.ensures.err

pub returns-then-not-has_room-clause-leads : goal.returns-then-not-has_room-clause-leads
returns-then-not-has_room-clause-leads g c = leads_same c.args.self.now
