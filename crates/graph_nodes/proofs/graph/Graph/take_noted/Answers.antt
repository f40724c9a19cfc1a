use Rattle.std.proofs.Common.{sym, ◌∙◌}
use Rattle.graph_nodes.proofs.Giving.{taken_early, taken_late}
use Rattle.graph_nodes.proofs.graph.Graph.take_noted.Goals as goal

pub returns-then-is_early-clause-taken : goal.returns-then-is_early-clause-taken
returns-then-is_early-clause-taken c = taken_early _ c.args.brick c.args.asked.wind c.args.rep c.args.taken c.args.self.now.cx.clients c.args.self.now.board (sym c.is_early.ensures ∙ c.if-is_early.true)

pub returns-clause-taken : goal.returns-clause-taken
returns-clause-taken c = taken_late _ c.args.brick c.args.asked.wind c.args.rep c.args.taken c.args.self.now.cx.clients c.args.self.now.board _ _ (sym c.is_early.ensures ∙ c.if-is_early.false) c.in_ok-settled.ensures.taken
