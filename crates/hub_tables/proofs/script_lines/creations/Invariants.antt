use Rattle.std.proofs.Common.{◌≡◌, ◌<◌, ◌+◌, ◌-◌, ◌^◌, min, drop}
use Rattle.mount_log.specs.Lines.{creations_of}
use Rattle.hub_tables.proofs.script_lines.creations.Given as goal

abbrev pub invariant-loop-phase : goal.invariant-loop-phase
invariant-loop-phase l = (l.count < 2 ^ 32) × (min (l.count + creations_of (drop l.phase-index l.script.phases)) (2 ^ 32 - 1) ≡ min (creations_of l.script.phases) (2 ^ 32 - 1))
