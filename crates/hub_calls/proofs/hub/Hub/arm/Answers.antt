use Rattle.std.proofs.Common.{ap, ◌∙◌}
use Rattle.hub_calls.specs.Hubs.{HubState}
use Rattle.hub_calls.proofs.Additions.{event_behind}
use Rattle.hub_calls.proofs.hub.Hub.arm.Goals as goal

pub returns-clause-only : goal.returns-clause-only
returns-clause-only c = λ _. event_behind _ _ _ _ _ _ _ (c.armed-done.ensures.same.2 ∙ ap (λ (h : HubState). h.log) c.self.view_is) c.armed-done.ensures.lines c.open.ensures.lines c.in_ok-close_finished.ensures.lines
