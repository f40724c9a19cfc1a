use Rattle.std.proofs.Common.{◌≡◌, ◌≤◌, ◌-◌, length, drop}
use Rattle.graph_build.specs.PlanRules.{unused_from}
use Rattle.graph_build.proofs.known.Known.first_unused.Given as goal

abbrev pub invariant-loop-place : goal.invariant-loop-place
invariant-loop-place l = (l.place ≤ length l.self) × (unused_from l.self (drop l.place l.self) l.place ≡ unused_from l.self l.self 0)

abbrev pub decreases-loop-place : goal.decreases-loop-place
decreases-loop-place l = length l.self - l.place
