use Rattle.std.proofs.Common.{refl}
use Rattle.std.proofs.lemmas.Result.{on_ok_weaker}
use Rattle.graph_nodes.proofs.Living.{others_same}
use Rattle.graph_nodes.proofs.graph.Graph.wake_parked.Goals as goal

pub returns-clause-kept : goal.returns-clause-kept
returns-clause-kept c = record { number = c.wake.ensures.graph; top = refl; wiring = refl; promises = refl; others = others_same c.args.self.now.board.graph c.args.self.now.board.stack _ c.wake.ensures.stack }

pub returns-clause-works : goal.returns-clause-works
returns-clause-works c = on_ok_weaker c.wake.result (λ works ps is. works ps c.args.self.now.nodes.items c.args.self.now.wiring is) c.wake.ensures.works
