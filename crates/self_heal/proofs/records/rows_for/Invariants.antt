use Rattle.std.proofs.Common.{◌≡◌, ◌++◌, drop}
use Rattle.self_heal.specs.Records.{rows_for}
use Rattle.self_heal.proofs.records.rows_for.Given as goal

abbrev pub invariant-loop-row : goal.invariant-loop-row
invariant-loop-row l = l.list.items ++ rows_for l.cell (drop l.row-index l.rows) ≡ rows_for l.cell l.rows
