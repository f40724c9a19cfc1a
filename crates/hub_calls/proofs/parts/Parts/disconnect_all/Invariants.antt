use Rattle.std.proofs.Common.{◌≡◌}
use Rattle.hub_calls.proofs.parts.Parts.disconnect_all.Given as goal

abbrev pub invariant-loop-brick : goal.invariant-loop-brick
invariant-loop-brick l = (l.self.calls ≡ l.fn.self.calls) × (l.self.graphs ≡ l.fn.self.graphs)
