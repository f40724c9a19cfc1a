use Rattle.std.proofs.Common.{◌≡◌, take}
use Rattle.error_audit.proofs.split_rows.are_same.Given as goal

abbrev pub invariant-loop-k : goal.invariant-loop-k
invariant-loop-k l = take l.k l.rows ≡ take l.k l.others
