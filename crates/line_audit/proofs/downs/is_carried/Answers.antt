use Rattle.std.proofs.Common.{sym, subst}
use Rattle.std.specs.Prelude.{Bool, ◌↔◌, IsTrue, IfOk}
use Rattle.mount_log.specs.declared.logs.HubEvent.{HubEvent}
use Rattle.line_audit.specs.Caused.{IsEventAt}
use Rattle.line_audit.proofs.downs.is_carried.Goals as goal

pub returns-in-Act-clause-says : goal.returns-in-Act-clause-says
returns-in-Act-clause-says c =
    subst (λ (e : HubEvent). IfOk c.is_action_carried.result (λ (yes : Bool). IsTrue yes ↔ IsEventAt c.args.log.now.sent c.args.at c.args.number e)) (sym c.in-Act.is) c.is_action_carried.ensures.says
