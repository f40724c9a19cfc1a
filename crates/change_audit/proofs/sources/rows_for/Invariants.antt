use Rattle.std.proofs.Common.{◌≡◌}
use Rattle.std.specs.Prelude.{map, take}
use Rattle.change_audit.specs.Copied.{row_for as row_of}
use Rattle.change_audit.proofs.sources.rows_for.Given as goal

abbrev pub invariant-loop-brick : goal.invariant-loop-brick
invariant-loop-brick l = l.found.items ≡ map (row_of l.rows) (take l.brick-index l.bricks)
