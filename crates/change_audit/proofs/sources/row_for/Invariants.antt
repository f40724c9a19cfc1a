use Rattle.std.proofs.Common.{◌≡◌, drop}
use Rattle.change_audit.specs.Copied.{row_for as row_of}
use Rattle.change_audit.proofs.sources.row_for.Given as goal

abbrev pub invariant-loop-row : goal.invariant-loop-row
invariant-loop-row l = row_of (drop l.row-index l.rows) l.brick ≡ row_of l.rows l.brick
