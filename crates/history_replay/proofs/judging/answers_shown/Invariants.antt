use Rattle.std.proofs.Common.{take}
use Rattle.history_replay.specs.Reports.{AreAnswersShown}
use Rattle.history_replay.proofs.judging.answers_shown.Given as goal

abbrev pub invariant-loop-call : goal.invariant-loop-call
invariant-loop-call l = AreAnswersShown (take l.call-index l.calls) l.answers.items
