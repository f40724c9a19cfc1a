use Rattle.std.proofs.Common.{◌≡◌, ◌≤◌, ◌-◌, length, drop}
use Rattle.graph_build.specs.VolumeRules.{brick_at}
use Rattle.graph_build.proofs.OptionLemmas.{later}
use Rattle.graph_build.proofs.options.brick_at.Given as goal

abbrev pub invariant-loop-number : goal.invariant-loop-number
invariant-loop-number l = (l.number ≤ length l.bricks) × (later l.number (brick_at l.host l.path (drop l.number l.bricks)) ≡ brick_at l.host l.path l.bricks)

abbrev pub decreases-loop-number : goal.decreases-loop-number
decreases-loop-number l = length l.bricks - l.number
