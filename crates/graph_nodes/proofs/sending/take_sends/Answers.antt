use Rattle.graph_nodes.proofs.Giving.{sends_next, sends_last}
use Rattle.graph_nodes.proofs.sending.take_sends.Goals as goal

pub loop-sent-preserved : goal.loop-sent-preserved
loop-sent-preserved c = sends_next _ _ _ _ _ _ c.in-Some.sent _ _ _ c.in-Some.ensures c.in_ok-send.ensures.sends c.in_ok-send.ensures.clients c.loop-sent.invariant

pub returns-clause-sends : goal.returns-clause-sends
returns-clause-sends c = sends_last _ _ _ _ _ _ c.in_default.ensures.0 c.loop-sent.invariant
