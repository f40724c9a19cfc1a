use Rattle.graph_nodes.proofs.Giving.{gone_next, gone_last}
use Rattle.graph_nodes.proofs.bailing.gone_of.Goals as goal

pub loop-first-preserved : goal.loop-first-preserved
loop-first-preserved c = (c.in_ok-push_gone.ensures.ours c.loop-first.invariant.0, gone_next c.args.board.now c.args.mark _ _ c.in-Some.first _ _ _ c.in-Some.ensures.first c.in_ok-push_gone.ensures.gone c.loop-first.invariant.1)

pub returns-clause-gone : goal.returns-clause-gone
returns-clause-gone c = gone_last c.args.board.now c.args.mark _ _ _ c.in_default.ensures.first c.loop-first.invariant.1
