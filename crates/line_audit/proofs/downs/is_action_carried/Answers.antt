use Rattle.std.proofs.Common.{sym, subst}
use Rattle.std.specs.Prelude.{Bool, ◌↔◌, IsTrue, IfOk}
use Rattle.script_lang.specs.declared.scripts.Action.{Action}
use Rattle.line_audit.specs.Caused.{IsLineAt, IsActionAt}
use Rattle.line_audit.proofs.downs.is_action_carried.Goals as goal

pub returns-in-Down-clause-says : goal.returns-in-Down-clause-says
returns-in-Down-clause-says c =
    subst (λ (x : Action). IfOk c.is_sent.result (λ (yes : Bool). IsTrue yes ↔ IsActionAt c.args.log.now.sent c.args.at c.args.number x)) (sym c.in-Down.is)
    (subst (λ (x : Action). IfOk c.is_sent.result (λ (yes : Bool). IsTrue yes ↔ IsLineAt c.args.log.now.sent c.args.at c.args.number c.in-Down.brick x)) c.in-Down.is c.is_sent.ensures.says)

pub returns-in-Up-clause-says : goal.returns-in-Up-clause-says
returns-in-Up-clause-says c =
    subst (λ (x : Action). IfOk c.is_sent-in-Up.result (λ (yes : Bool). IsTrue yes ↔ IsActionAt c.args.log.now.sent c.args.at c.args.number x)) (sym c.in-Up.is)
    (subst (λ (x : Action). IfOk c.is_sent-in-Up.result (λ (yes : Bool). IsTrue yes ↔ IsLineAt c.args.log.now.sent c.args.at c.args.number c.in-Up.brick x)) c.in-Up.is c.is_sent-in-Up.ensures.says)

pub returns-in-Fault-clause-says : goal.returns-in-Fault-clause-says
returns-in-Fault-clause-says c =
    subst (λ (x : Action). IfOk c.is_sent-in-Fault.result (λ (yes : Bool). IsTrue yes ↔ IsActionAt c.args.log.now.sent c.args.at c.args.number x)) (sym c.in-Fault.is)
    (subst (λ (x : Action). IfOk c.is_sent-in-Fault.result (λ (yes : Bool). IsTrue yes ↔ IsLineAt c.args.log.now.sent c.args.at c.args.number c.in-Fault.brick x)) c.in-Fault.is c.is_sent-in-Fault.ensures.says)
