use Rattle.std.proofs.Common.{◌≡◌, None, ap, ◌∙◌}
use Rattle.hub_calls.specs.Dues.{ready_in}
use Rattle.hub_calls.specs.Hubs.{HubState}
use Rattle.hub_calls.proofs.Agendas.{closed_agenda}
use Rattle.hub_calls.proofs.hub.Hub.close_finished.Goals as goal

pub returns-in-Ok-clause-agenda : goal.returns-in-Ok-clause-agenda
returns-in-Ok-clause-agenda c =
    let on = c.self.inside.planned in
    let goes : c.self.inside.stop ≡ None = ap (λ (h : HubState). h.stop) c.self.view_is ∙ c.requires.goes in
    rw (← c.self.view_is) (closed_agenda on.script c.self.inside.log c.close_finished.new.log on.left c.self.inside.stop c.args.event (ready_in on.plans c.close_finished.new.self.parts.graphs.nodes.tasks)
    c.self.inside.engine.agenda c.close_finished.new.self.agenda c.self.invariant.left goes c.requires.other c.in-Ok.ensures.event c.in-Ok.ensures.agenda c.in-Ok.ensures.out)
