use Rattle.std.proofs.lemmas.Result.{IfOk-weaker}
use Rattle.graph_nodes.proofs.TxnTurns.{begun_turn}
use Rattle.graph_nodes.proofs.ledgers.MountLedger.begin.Goals as goal

pub returns-clause-turn : goal.returns-clause-turn
returns-clause-turn c = IfOk-weaker c.begin.result _ _ (λ r begun. begun_turn c.requests_are_of_phases.ensures.begin c.requests_are_encoded.ensures.begin c.replies_are_within_bounds.ensures.begin c.requests_are_encoded.ensures.requests
    c.args.set.now c.args.call c.args.job c.self.inside.ledger c.args.live c.args.last.now r.0 r.1 begun c.requires.job c.ranges.call.fits c.self.invariant) c.begin.ensures
