use Rattle.std.proofs.Common.{◌≡◌, take}
use Rattle.error_audit.proofs.cells.are_cells.Given as goal

abbrev pub invariant-loop-k : goal.invariant-loop-k
invariant-loop-k l = take l.k l.cells ≡ take l.k l.others
