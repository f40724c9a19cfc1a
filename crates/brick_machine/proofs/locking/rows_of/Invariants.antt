use Rattle.std.proofs.Common.{◌≡◌, take}
use Rattle.brick_machine.specs.Locking.{rows_of}
use Rattle.brick_machine.proofs.locking.rows_of.Given as goal

abbrev pub invariant-loop-cell : goal.invariant-loop-cell
invariant-loop-cell l = l.rows.items ≡ rows_of l.store.cells (take l.cell-index l.those)
