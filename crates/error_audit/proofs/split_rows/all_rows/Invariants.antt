use Rattle.std.proofs.Common.{◌≡◌, ◌++◌, drop}
use Rattle.mount_log.specs.Causes.{all_rows}
use Rattle.error_audit.proofs.split_rows.all_rows.Given as goal

abbrev pub invariant-loop-place : goal.invariant-loop-place
invariant-loop-place l = l.all.items ++ all_rows l.bricks l.shown l.cells (drop l.place-index l.places) ≡ all_rows l.bricks l.shown l.cells l.places
