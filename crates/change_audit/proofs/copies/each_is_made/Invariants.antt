use Rattle.std.proofs.Common.{ℕ, ◌<◌, ◌≡◌}
use Rattle.std.specs.Prelude.{Some, slice_get}
use Rattle.fop_types.specs.declared.copy_jobs.CopyRecord.{CopyRecord}
use Rattle.change_audit.specs.Copying.{IsCopyDue}
use Rattle.change_audit.proofs.copies.each_is_made.Given as goal

abbrev pub invariant-loop-k : goal.invariant-loop-k
invariant-loop-k l = (j : ℕ) (copy : CopyRecord) → j < l.k → slice_get l.log.copies j ≡ Some copy → IsCopyDue l.script l.plans l.log l.bricks l.claims j copy
