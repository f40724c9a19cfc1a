use Rattle.std.proofs.lemmas.Result.{IfOk-weaker}
use Rattle.graph_nodes.proofs.TxnTurns.{answer_turn, few_after, few_left, few_either}
use Rattle.graph_nodes.proofs.ledgers.MountLedger.answer.Goals as goal

pub returns-clause-turn : goal.returns-clause-turn
returns-clause-turn c = IfOk-weaker c.answer.result _ _ (λ need is. answer_turn c.requests_are_of_phases.ensures.answers c.requests_are_encoded.ensures.answers c.replies_are_within_bounds.ensures.answers c.requests_are_encoded.ensures.requests
    c.args.txn.now c.args.replica c.args.mark c.args.rep c.self.inside.ledger c.answer.new.ledger c.args.live c.args.last.now c.answer.new.self need is c.requires.asking c.requires.asked c.requires.kept c.requires.encoded c.self.invariant) c.answer.ensures.turn

pub invariant_of-self : goal.invariant_of-self
invariant_of-self c = few_either c.answer.result _ _ c.answer.new.ledger
    (λ need is. few_after c.requests_are_encoded.ensures.answers_leave c.args.txn.now c.args.replica c.args.mark c.args.rep c.self.inside.ledger c.answer.new.ledger c.args.live c.args.last.now c.answer.new.self need is c.requires.asking c.requires.kept c.self.invariant)
    (λ left. few_left c.args.txn.now.phase _ c.self.inside.ledger c.answer.new.ledger c.self.invariant left) c.answer.ensures.turn c.answer.ensures.err
