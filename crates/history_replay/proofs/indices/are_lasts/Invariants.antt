use Rattle.std.proofs.Common.{◌≡◌, ℕ, ◌<◌, get_or}
use Rattle.std.specs.Prelude.{slice_get, Some, None}
use Rattle.fop_types.specs.Calls.{Submission}
use Rattle.history_replay.specs.code.Runs.{IsLastOf}
use Rattle.history_replay.proofs.indices.are_lasts.Given as goal

abbrev pub invariant-loop-at : goal.invariant-loop-at
invariant-loop-at l = (at : ℕ) (s : Submission) → at < l.at → slice_get l.trace.calls at ≡ Some s → IsLastOf l.trace at s (get_or l.f.last at None)
