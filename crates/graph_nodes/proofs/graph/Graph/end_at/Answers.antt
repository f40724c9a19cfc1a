use Rattle.std.proofs.Common.{refl}
use Rattle.graph_nodes.proofs.Living.{others_same, ended_works}
use Rattle.graph_nodes.proofs.Giving.{ends_at}
use Rattle.graph_nodes.proofs.graph.Graph.end_at.Goals as goal

pub bail-requires : goal.bail-requires
bail-requires c = record { ours = c.in_ok-winds.ensures.ours }

pub returns-clause-kept : goal.returns-clause-kept
returns-clause-kept c = record { number = c.bail.ensures.leads.same; top = refl; wiring = refl; promises = refl; others = c.bail.ensures.leads.others }

pub returns-clause-works : goal.returns-clause-works
returns-clause-works c = λ parked ps is. ended_works c.args.self.now.board c.bail.new.self c.bail.ensures.leads.same c.in_ok-won.ensures.sound c.in_ok-won.ensures.held parked ps c.args.self.now.nodes.items c.args.self.now.wiring is

pub returns-in_err-winds-clause-kept : goal.returns-in_err-winds-clause-kept
returns-in_err-winds-clause-kept c = record { number = refl; top = refl; wiring = refl; promises = refl; others = others_same c.args.self.now.board.graph c.args.self.now.board.stack c.args.self.now.board.stack refl }

pub returns-in_err-won-clause-kept : goal.returns-in_err-won-clause-kept
returns-in_err-won-clause-kept c = record { number = c.bail.ensures.leads.same; top = refl; wiring = refl; promises = refl; others = c.bail.ensures.leads.others }

pub returns-clause-ends : goal.returns-clause-ends
returns-clause-ends c = ends_at c.args.self.now c.bail.new.self c.args.brick c.in_ok-won.won c.last-mark.result c.end.new.self _ _ c.end.ensures c.last-mark.ensures c.take_at-waiting.ensures c.in_ok-winds.ensures.gone c.in_ok-won.ensures.bailed
