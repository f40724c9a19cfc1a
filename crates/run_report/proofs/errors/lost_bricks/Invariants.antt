use Rattle.std.proofs.Common.{◌≡◌, map, take}
use Rattle.run_report.specs.Reports.{shown_brick}
use Rattle.run_report.proofs.errors.lost_bricks.Given as goal

abbrev pub invariant-loop-brick : goal.invariant-loop-brick
invariant-loop-brick l = l.shown ≡ map (shown_brick l.names) (take l.brick-index l.lost)
