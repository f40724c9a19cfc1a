use Rattle.std.proofs.Common.{sym, subst}
use Rattle.std.proofs.lemmas.Result.{IfOk-weaker}
use Rattle.afr_transaction.specs.Encodings.{HaveFew}
use Rattle.graph_nodes.proofs.TxnTurns.{copied_turn, few_copied, few_either}
use Rattle.graph_nodes.proofs.ledgers.MountLedger.copied.Goals as goal

pub returns-clause-turn : goal.returns-clause-turn
returns-clause-turn c = IfOk-weaker c.copied.result _ _ (λ need is. copied_turn c.requests_are_of_phases.ensures.copies c.requests_are_encoded.ensures.copies c.replies_are_within_bounds.ensures.copies c.requests_are_encoded.ensures.requests
    c.args.txn.now c.args.done c.self.inside.ledger c.copied.new.ledger c.args.live c.args.last.now c.copied.new.self need is c.requires.copying c.requires.kept c.self.invariant) c.copied.ensures.turn

pub invariant_of-self : goal.invariant_of-self
invariant_of-self c = few_either c.copied.result _ _ c.copied.new.ledger
    (λ need is. few_copied c.requests_are_encoded.ensures.copies_leave c.args.txn.now c.args.done c.self.inside.ledger c.copied.new.ledger c.args.live c.args.last.now c.copied.new.self need is c.self.invariant)
    (λ same. subst HaveFew (sym same) c.self.invariant) c.copied.ensures.turn c.copied.ensures.err
