use Rattle.std.proofs.lemmas.Result.{IfOk-weaker}
use Rattle.graph_nodes.proofs.CopyTurns.{begun_encoded, begun_few}
use Rattle.graph_nodes.proofs.nodes.copies.begin_run.Goals as goal

pub returns-clause-encoded : goal.returns-clause-encoded
returns-clause-encoded c = IfOk-weaker c.begin.result _ _ (λ r is. begun_encoded c.copies_are_encoded.ensures.begin c.args.job c.args.rows r.0 r.1 is c.requires.few) c.begin.ensures

pub returns-clause-few : goal.returns-clause-few
returns-clause-few c = IfOk-weaker c.begin.result _ _ (λ r is. begun_few c.copies_are_encoded.ensures.begin c.args.job c.args.rows r.0 r.1 is c.requires.few) c.begin.ensures
