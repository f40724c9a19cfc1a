use Rattle.std.proofs.Common.{◌≡◌}
use Rattle.hub_calls.proofs.parts.Parts.connect_newest.Given as goal

abbrev pub invariant-loop-brick : goal.invariant-loop-brick
invariant-loop-brick l = l.self.graphs.live ≡ l.fn.self.graphs.live
