use Rattle.std.proofs.Common.{◌≡◌, length, drop, []}
use Rattle.graph_build.specs.PlanRules.{infos_from}
use Rattle.graph_build.proofs.volumes.known_of.Given as goal

abbrev pub invariant-loop-volume : goal.invariant-loop-volume
invariant-loop-volume l = (length l.known ≡ l.volume-index) × (infos_from l.volumes l.bricks l.known (drop l.volume-index l.volumes) ≡ infos_from l.volumes l.bricks [] l.volumes)
