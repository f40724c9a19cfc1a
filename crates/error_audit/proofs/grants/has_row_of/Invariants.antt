use Rattle.std.proofs.Common.{◌≡◌, drop}
use Rattle.error_audit.specs.code.Searches.{has_row_of}
use Rattle.error_audit.proofs.grants.has_row_of.Given as goal

abbrev pub invariant-loop-row : goal.invariant-loop-row
invariant-loop-row l = has_row_of (drop l.row-index l.rows) l.brick ≡ has_row_of l.rows l.brick
