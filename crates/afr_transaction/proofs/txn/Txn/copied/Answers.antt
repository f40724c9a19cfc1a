use Rattle.afr_transaction.proofs.Turned.{copy_ends, no_copy}
use Rattle.afr_transaction.proofs.txn.Txn.copied.Goals as goal

pub returns-in_default : goal.returns-in_default
returns-in_default c = record {
  turn = no_copy c.args.self.now c.args.done c.args.ledger.now c.args.live c.args.last.now
      c.replace-phase.result c.replace-phase.ensures.value c.in_default.not-Copying
      c.wait.new.self c.wait.result c.wait.ensures;
  err = tt;
}

pub returns-in-Copying-clause-turn : goal.returns-in-Copying-clause-turn
returns-in-Copying-clause-turn c =
    copy_ends c.args.self.now c.args.done c.args.ledger.now c.args.live c.args.last.now
    c.replace-phase.result c.replace-phase.new.dest c.in-Copying.sinks c.in-Copying.rest c.replace-phase.ensures.value c.replace-phase.ensures.after c.in-Copying.is
    c.take_copy.new.self c.take_copy.new.ledger c.take_copy.result c.take_copy.ensures.turn
