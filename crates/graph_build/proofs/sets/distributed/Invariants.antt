use Rattle.std.proofs.Common.{◌≡◌, drop}
use Rattle.std.specs.List.{AllByRecursion}
use Rattle.graph_build.specs.Known.{IsFew}
use Rattle.graph_build.specs.Plans.{distributed}
use Rattle.graph_build.proofs.sets.distributed.Given as goal

abbrev pub invariant-loop-info : goal.invariant-loop-info
invariant-loop-info l = AllByRecursion IsFew (drop l.info-index l.infos) × (distributed (drop l.info-index l.infos) ≡ distributed l.infos)
