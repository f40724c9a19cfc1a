use Rattle.std.proofs.Common.{ℕ, ◌<◌, ◌≡◌}
use Rattle.std.specs.Prelude.{Some, slice_get}
use Rattle.fop_types.specs.declared.history.Entry.{Entry}
use Rattle.change_audit.specs.Entries.{IsEntryClaimed}
use Rattle.change_audit.proofs.changes.are_borne.Given as goal

abbrev pub invariant-loop-k : goal.invariant-loop-k
invariant-loop-k l = (j : ℕ) (entry : Entry) → j < l.k → slice_get l.log.history j ≡ Some entry → IsEntryClaimed l.script l.plans l.log l.bricks l.ops l.from l.claims j entry
