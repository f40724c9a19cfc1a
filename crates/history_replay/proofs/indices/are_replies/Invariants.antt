use Rattle.std.proofs.Common.{◌≡◌, ℕ, ◌<◌}
use Rattle.std.specs.Prelude.{slice_get, Some}
use Rattle.fop_types.specs.History.{Reply}
use Rattle.history_replay.specs.code.Runs.{IsReplyFound}
use Rattle.history_replay.proofs.indices.are_replies.Given as goal

abbrev pub invariant-loop-index : goal.invariant-loop-index
invariant-loop-index l = (k : ℕ) (r : Reply) → k < l.index → slice_get l.trace.replies k ≡ Some r → IsReplyFound l.trace l.f k r.call
