use Rattle.std.proofs.Common.{take}
use Rattle.history_replay.specs.Reports.{AreShown, with_answers}
use Rattle.history_replay.proofs.judging.replies_shown.Given as goal

abbrev pub invariant-loop-at : goal.invariant-loop-at
invariant-loop-at l = AreShown (with_answers (take l.at l.calls)) l.replies.items
