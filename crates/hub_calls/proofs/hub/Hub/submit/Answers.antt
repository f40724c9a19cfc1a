use Rattle.std.proofs.Common.{◌≡◌, false, true, None, is_some, refl, ap, subst, ◌∙◌}
use Rattle.hub_tables.specs.Agendas.{AgendaState}
use Rattle.hub_calls.specs.Dues.{ready_in}
use Rattle.hub_calls.specs.Hubs.{HubState, ClosesWith}
use Rattle.hub_calls.proofs.Agendas.{submitted_agenda}
use Rattle.hub_calls.proofs.Planning.{submits_are}
use Rattle.hub_calls.proofs.hub.Hub.submit.Goals as goal

pub returns-in_default-clause-did : goal.returns-in_default-clause-did
returns-in_default-clause-did c =
    let goes : c.self.inside.stop ≡ None = ap (λ (h : HubState). h.stop) c.self.view_is ∙ c.in_ok-check.ensures.goes in
    rw (← c.self.view_is) (submits_are c.self.inside.planned.script c.self.inside.log c.self.inside.planned _ c.submits-ready.result c.self.inside.stop c.args.session c.next_of.result false c.self.invariant.left goes refl
    c.submits-ready.ensures c.next_of.ensures.there (ap is_some c.in_default.is))

pub returns-in-Ok-clause-did : goal.returns-in-Ok-clause-did
returns-in-Ok-clause-did c =
    let goes : c.self.inside.stop ≡ None = ap (λ (h : HubState). h.stop) c.self.view_is ∙ c.in_ok-check.ensures.goes in
    rw (← c.self.view_is) (submits_are c.self.inside.planned.script c.self.inside.log c.self.inside.planned _ c.submits-ready.result c.self.inside.stop c.args.session c.next_of.result true c.self.invariant.left goes refl
    c.submits-ready.ensures c.next_of.ensures.there (ap is_some c.in-Some.is))

pub returns-in-Ok-clause-agenda : goal.returns-in-Ok-clause-agenda
returns-in-Ok-clause-agenda c = λ _.
    let on = c.self.inside.planned in
    let after = c.take_line.new.self in
    let tasks = ready_in after.plans c.close.new.self.parts.graphs.nodes.tasks in
    let goes : c.self.inside.stop ≡ None = ap (λ (h : HubState). h.stop) c.self.view_is ∙ c.in_ok-check.ensures.goes in
    rw (← c.self.view_is) (subst (λ (a : AgendaState). ClosesWith on.script c.self.inside.log c.close.new.log tasks a c.close.new.self.agenda) c.submit.ensures (submitted_agenda on after c.self.inside.log c.close.new.log c.self.inside.stop c.args.session c.in-Some.line c.in-Some.at tasks c.submit.new.self c.close.new.self.agenda c.self.invariant.left goes c.in-Some.ensures.next
    c.take_line.ensures.taken c.take_line.ensures.same.0 c.in-Ok.ensures.event c.in-Ok.ensures.agenda c.in-Ok.ensures.out))
