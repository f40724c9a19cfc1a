use Rattle.std.proofs.Common.{◌≡◌, drop}
use Rattle.world_bricks.specs.Lines.{put_all}
use Rattle.world_bricks.proofs.lines.Lines.deliver.Given as goal

abbrev pub invariant-loop-at : goal.invariant-loop-at
invariant-loop-at l = (l.self.bricks ≡ l.fn.self.bricks) × (put_all (drop l.at l.sent) l.self.queues ≡ put_all (drop l.fn.self.delivered l.sent) l.fn.self.queues)
