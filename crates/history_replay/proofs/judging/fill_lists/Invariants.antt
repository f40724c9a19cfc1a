use Rattle.history_replay.specs.Reports.{AreAnswersShown}
use Rattle.history_replay.proofs.judging.fill_lists.Given as goal

abbrev pub invariant-loop-at : goal.invariant-loop-at
invariant-loop-at l = AreAnswersShown l.calls l.answers.items
