use Rattle.std.proofs.Common.{◌≡◌, map, take}
use Rattle.graph_nodes.specs.Replicate.{named_row}
use Rattle.graph_nodes.proofs.nodes.records.named_rows.Given as goal

abbrev pub invariant-loop-row : goal.invariant-loop-row
invariant-loop-row l = l.named ≡ map (named_row l.bricks) (take l.row-index l.rows)
