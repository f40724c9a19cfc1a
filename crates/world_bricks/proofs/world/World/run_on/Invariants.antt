use Rattle.std.proofs.Common.{◌≡◌}
use Rattle.std.specs.Prelude.{None}
use Rattle.world_bricks.specs.Worlds.{IsReached}
use Rattle.world_bricks.proofs.Running.{IsUnderWay}
use Rattle.world_bricks.proofs.world.World.run_on.Given as goal

abbrev pub invariant-loop : goal.invariant-loop
invariant-loop l =
    (l.self.script ≡ l.fn.self.script) × (l.self.plans ≡ l.fn.self.plans) × (l.self.stop ≡ None) × IsReached l.fn.self.script l.fn.self.log l.fn.self.lines l.self.log l.self.lines
    × IsUnderWay l.seed l.fn.self l.self l.schedule l.counter
