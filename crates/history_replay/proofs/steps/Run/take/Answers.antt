use Rattle.std.proofs.Common.{refl, arith}
use Rattle.std.specs.Prelude.{true}
use Rattle.history_replay.proofs.Taking.{ends, goes_on}
use Rattle.history_replay.proofs.steps.Run.take.Goals as goal

pub returns-in-Ends : goal.returns-in-Ends
returns-in-Ends c = λ _.
    ends c.args.self.now (record { files = c.take_step-passed.new.files; at = c.args.self.now.at; ops = c.note-noted.new.ops; ended = true }) c.take_step-passed.new.files
    c.args.replies.now c.args.step c.in_ok-passed.field-0 c.if-self.false c.in-Ends.is c.in_ok-passed.ensures refl c.in_ok-noted.ensures

pub returns-in-Some : goal.returns-in-Some
returns-in-Some c = λ _.
    goes_on c.args.self.now (record { files = c.take_step-passed.new.files; at = c.in-Some.at; ops = c.note-noted.new.ops; ended = c.args.self.now.ended }) c.args.replies.now
    c.args.step c.in_ok-passed.field-0 c.if-self.false c.in-GoesOn.is c.in_ok-passed.ensures c.if-self.false (omega (arith, c.in-Some.ensures))
    c.in_ok-noted.ensures
