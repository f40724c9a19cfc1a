use Rattle.std.proofs.Common.{inl, inr, ◌∙◌, Bool, ap}
use Rattle.fop_types.specs.declared.cells.Cell.{Cell}
use Rattle.afr_ledger.specs.Ledger.{State}
use Rattle.afr_transaction.proofs.Turned.{on_err, settle_steps}
use Rattle.afr_transaction.proofs.txn.Txn.settle_answered.Goals as goal

pub returns-clause-turn : goal.returns-clause-turn
returns-clause-turn c =
    settle_steps c.args.self.now c.args.verdict c.args.ledger.now c.decide_settle.new.ledger c.args.live c.args.last.now
    c.in_ok-decided.decided _ c.in_ok-decided.ensures.turn c.in_ok-need.ensures.turn

pub returns-in_err-decided-clause-err : goal.returns-in_err-decided-clause-err
returns-in_err-decided-clause-err c = on_err c.from_residual.result (inl c.in_err-decided.ensures.err)

pub returns-in_err-need-clause-err : goal.returns-in_err-need-clause-err
returns-in_err-need-clause-err c = on_err c.from_residual-in_err-need.result (inr (c.in_err-need.ensures.err ∙ ap (λ (d : Bool × State Cell). d.1) c.in_ok-decided.ensures.turn))
