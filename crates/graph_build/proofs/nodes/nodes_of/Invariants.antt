use Rattle.std.proofs.Common.{◌≡◌, ◌≤◌, ◌*◌, [], length, drop}
use Rattle.graph_build.specs.Plans.{nodes_from}
use Rattle.graph_build.proofs.nodes.nodes_of.Given as goal

abbrev pub invariant-loop-info : goal.invariant-loop-info
invariant-loop-info l =
    (length l.tops.items ≡ l.info-index) × (length l.nodes.items ≤ 3 * l.info-index)
    × (nodes_from l.alone l.sets l.tops.items l.nodes.items (drop l.info-index l.infos) ≡ nodes_from l.alone l.sets [] [] l.infos)
