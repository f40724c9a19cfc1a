use Rattle.std.proofs.Common.{subst}
use Rattle.std.specs.Prelude.{OnOk, ◌-◌}
use Rattle.frame_driver.specs.Machine.{IsAnswered}
use Rattle.frame_driver.proofs.Keeping.{out_ends, ended_led}
use Rattle.frame_driver.proofs.Opening.{parent_still}
use Rattle.frame_driver.proofs.board.Board.end_frame.Goals as goal

pub returns-clause-leads : goal.returns-clause-leads
returns-clause-leads g c = ended_led c.args.self.now c.args.frame c.args.place c.free.new.self _ c.answer.new.self c.requires.home c.requires.out c.requires.none c.free.ensures.freed c.answer.ensures.leads

pub free-requires : goal.free-requires
free-requires g c = out_ends c.args.self.now.stack c.args.frame c.args.place c.requires.out c.requires.none

pub answer-requires : goal.answer-requires
answer-requires g c = record { ours = parent_still c.args.self.now c.args.frame c.args.place c.requires.home c.requires.out c.free.new.self c.args.place.parent c.free.ensures.freed c.requires.ours }

pub returns-clause-answered : goal.returns-clause-answered
returns-clause-answered g c = subst (λ s. OnOk c.answer.result (IsAnswered c.args.place.parent c.args.place.call c.args.reply (record c.args.self.now { stack = s; frames = c.args.self.now.frames - 1 }) c.answer.new.self)) c.free.ensures.freed c.answer.ensures.answered
