use Rattle.std.proofs.Common.{◌≡◌}
use Rattle.history_replay.specs.code.Runs.{AreHeldOn}
use Rattle.history_replay.proofs.steps.all_hold.Given as goal

abbrev pub invariant-loop-claim : goal.invariant-loop-claim
invariant-loop-claim l = record {
  files : l.files ≡ l.fn.files;
  held : AreHeldOn l.fn.files l.at l.replies l.yielded;
}
