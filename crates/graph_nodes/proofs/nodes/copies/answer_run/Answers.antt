use Rattle.std.proofs.lemmas.Result.{IfOk-weaker}
use Rattle.graph_nodes.proofs.CopyTurns.{answer_encoded, answer_few}
use Rattle.graph_nodes.proofs.nodes.copies.answer_run.Goals as goal

pub returns-clause-encoded : goal.returns-clause-encoded
returns-clause-encoded c = IfOk-weaker c.answer.result _ _ (λ need is. answer_encoded c.copies_are_encoded.ensures.answers c.args.run.now c.answer.new.self c.args.replica c.args.mark c.args.rep need is c.requires.few c.requires.rep) c.answer.ensures

pub returns-clause-few : goal.returns-clause-few
returns-clause-few c = IfOk-weaker c.answer.result _ _ (λ need is. answer_few c.copies_are_encoded.ensures.answers c.args.run.now c.answer.new.self c.args.replica c.args.mark c.args.rep need is c.requires.few c.requires.rep) c.answer.ensures
