use Rattle.std.proofs.Common.{◌≡◌, ℕ, ◌<◌}
use Rattle.std.specs.Prelude.{slice_get, Some}
use Rattle.fop_types.specs.declared.history.Entry.{Entry}
use Rattle.history_replay.specs.code.Runs.{IsEntryFound}
use Rattle.history_replay.proofs.indices.are_entries.Given as goal

abbrev pub invariant-loop-index : goal.invariant-loop-index
invariant-loop-index l = (i : ℕ) (e : Entry) → i < l.index → slice_get l.trace.history i ≡ Some e → IsEntryFound l.trace l.f i e
