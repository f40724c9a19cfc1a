use Rattle.std.proofs.Common.{◌≡◌, ◌++◌, take, flat_map}
use Rattle.report_text.specs.AnswerText.{brick_text}
use Rattle.report_text.proofs.text.Text.faults.Given as goal

abbrev pub invariant-loop-brick : goal.invariant-loop-brick
invariant-loop-brick l = l.self ≡ l.initial.self ++ flat_map brick_text (take l.brick-index l.faults)
