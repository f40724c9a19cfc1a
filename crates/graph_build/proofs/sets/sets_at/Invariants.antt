use Rattle.std.proofs.Common.{◌≡◌, ◌≤◌, ◌-◌, ◌++◌, length, drop}
use Rattle.graph_build.specs.Plans.{sets_from}
use Rattle.graph_build.proofs.sets.sets_at.Given as goal

abbrev pub invariant-loop-number : goal.invariant-loop-number
invariant-loop-number l = (l.number ≤ length l.places) × (l.sets.items ++ sets_from l.volumes l.infos l.number (drop l.number l.places) ≡ sets_from l.volumes l.infos 0 l.places)

abbrev pub decreases-loop-number : goal.decreases-loop-number
decreases-loop-number l = length l.places - l.number
