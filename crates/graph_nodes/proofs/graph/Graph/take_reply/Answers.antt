use Rattle.std.proofs.Common.{refl}
use Rattle.graph_nodes.proofs.Living.{keeps_led, ended_works}
use Rattle.graph_nodes.proofs.graph.Graph.take_reply.Goals as goal

pub returns-clause-kept : goal.returns-clause-kept
returns-clause-kept c = keeps_led c.args.self.now _ c.reply.ensures.leads refl refl refl

pub returns-clause-works : goal.returns-clause-works
returns-clause-works c = λ parked ps is. ended_works c.args.self.now.board c.reply.new.self c.reply.ensures.leads.same c.in_ok-settled.ensures.sound c.in_ok-settled.ensures.held parked ps c.args.self.now.nodes.items c.args.self.now.wiring is
