use Rattle.std.proofs.Common.{◌≡◌, take}
use Rattle.graph_nodes.specs.Replicate.{recorded}
use Rattle.graph_nodes.proofs.nodes.records.record_all.Given as goal

abbrev pub invariant-loop-made : goal.invariant-loop-made
invariant-loop-made l = l.cx ≡ recorded l.bricks l.fn.cx (take l.made-index l.records)
