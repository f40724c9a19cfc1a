use Rattle.std.proofs.Common.{◌≡◌, ◌<◌, ◌+◌, ◌-◌, ◌^◌, min, drop}
use Rattle.mount_log.specs.Lines.{creations_in}
use Rattle.hub_tables.proofs.script_lines.creations_in.Given as goal

abbrev pub invariant-loop-line : goal.invariant-loop-line
invariant-loop-line l = (l.count < 2 ^ 32) × (min (l.count + creations_in (drop l.line-index l.phase.calls)) (2 ^ 32 - 1) ≡ min (creations_in l.phase.calls) (2 ^ 32 - 1))
