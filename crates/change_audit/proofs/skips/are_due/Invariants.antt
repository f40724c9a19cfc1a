use Rattle.std.proofs.Common.{ℕ, ◌<◌, ◌≡◌}
use Rattle.std.specs.Prelude.{Some, slice_get}
use Rattle.fop_types.specs.declared.causes.SkipCause.{SkipCause}
use Rattle.fop_types.specs.declared.cells.Cell.{Cell}
use Rattle.change_audit.specs.Listings.{IsSkipDue}
use Rattle.change_audit.proofs.skips.are_due.Given as goal

abbrev pub invariant-loop-k : goal.invariant-loop-k
invariant-loop-k l = (j : ℕ) (skip : Cell × SkipCause) → j < l.k → slice_get l.log.skips j ≡ Some skip → IsSkipDue l.log l.bricks j skip
