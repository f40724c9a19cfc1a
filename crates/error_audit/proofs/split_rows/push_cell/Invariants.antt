use Rattle.std.proofs.Common.{◌≡◌, ◌++◌, drop}
use Rattle.mount_log.specs.Causes.{rows_from}
use Rattle.error_audit.proofs.split_rows.push_cell.Given as goal

abbrev pub invariant-loop-brick : goal.invariant-loop-brick
invariant-loop-brick l = record {
  at : l.k ≡ l.brick-index;
  rest : l.all.items ++ rows_from l.rows l.cell l.k (drop l.brick-index l.bricks) ≡ l.fn.all.items ++ rows_from l.rows l.cell 0 l.bricks;
}
