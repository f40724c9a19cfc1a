use Rattle.std.proofs.Common.{◌≡◌}
use Rattle.hub_calls.specs.Live.{OnlyDoneGo}
use Rattle.hub_calls.proofs.parts.Parts.disconnect_drained.Given as goal

abbrev pub invariant-loop : goal.invariant-loop
invariant-loop l = record {
  calls : l.self.calls ≡ l.fn.self.calls;
  newest : l.self.graphs.live.newest ≡ l.fn.self.graphs.live.newest;
  gone : OnlyDoneGo l.fn.self.calls l.fn.self.graphs.live.newest l.fn.self.graphs.nodes.numbers l.self.graphs.nodes.numbers;
}
