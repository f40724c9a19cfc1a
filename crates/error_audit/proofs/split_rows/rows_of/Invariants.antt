use Rattle.std.proofs.Common.{◌≡◌, ◌++◌, drop}
use Rattle.mount_log.specs.Causes.{rows_of}
use Rattle.error_audit.proofs.split_rows.rows_of.Given as goal

abbrev pub invariant-loop-one : goal.invariant-loop-one
invariant-loop-one l = l.rows.items ++ rows_of (drop l.one-index l.shown) l.place ≡ rows_of l.shown l.place
