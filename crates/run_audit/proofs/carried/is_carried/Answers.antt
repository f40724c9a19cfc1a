use Rattle.std.proofs.Common.{◌≡◌, ◌↔◌, IsTrue, sym, subst}
use Rattle.std.specs.Prelude.{ℕ, Option, IfOk}
use Rattle.run_audit.specs.Controlled.{IsCarriedSo}
use Rattle.run_audit.proofs.carried.is_carried.Goals as goal

pub returns-in-Some : goal.returns-in-Some
returns-in-Some c =
    subst (λ (o : Option ℕ). IfOk c.is_sent_control.result (λ yes. IsTrue yes ↔ IsCarriedSo c.args.log.now c.args.tables.now c.args.how.event o c.args.control.now)) (sym c.in-Some.is)
    c.is_sent_control.ensures
