use Rattle.graph_nodes.specs.Calls.{answers_in}
use Rattle.graph_nodes.proofs.Giving.{flat_next, flat_last}
use Rattle.graph_nodes.proofs.running.take_answers.Goals as goal

pub loop-answered-preserved : goal.loop-answered-preserved
loop-answered-preserved c = flat_next answers_in _ _ c.in-Some.answered _ _ _ c.in-Some.ensures c.in_ok-push_answer.ensures c.loop-answered.invariant

pub returns-clause-answers : goal.returns-clause-answers
returns-clause-answers c = flat_last answers_in _ _ _ c.in_default.ensures.0 c.loop-answered.invariant
