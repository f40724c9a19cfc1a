use Rattle.std.proofs.Common.{◌≡◌, ◌-◌, length, sym, subst, ◌∙◌}
use Rattle.hub_tables.specs.Agendas.{AgendaState, without_armed_of}
use Rattle.hub_tables.proofs.Outgoing.{all_taken, same_but}
use Rattle.hub_tables.proofs.agenda.Agenda.send_all_armed.Goals as goal

pub returns-in_default-clause-same : goal.returns-in_default-clause-same
returns-in_default-clause-same c =
    let now : AgendaState = record {
      progress = c.self-in-loop.inside.progress;
      controls = c.self-in-loop.inside.controls;
      internal = c.self-in-loop.inside.internal;
      owed = c.self-in-loop.inside.owed;
    } in
    let is : now ≡ c.loop.self = c.self-in-loop.view_is in
    let many = length c.args.self.now.controls.armed in
    same_but c.args.self.now now c.take_armed.new.self (without_armed_of c.args.self.now.controls c.args.request many)
    (subst (λ (a : AgendaState). a ≡ record (c.args.self.now) { owed = a.owed; controls = a.controls }) (sym is) c.loop.invariant.0)
    (all_taken c.args.self.now.controls now.controls c.take_armed.new.self c.args.request (many - c.loop.counter) many (sym c.take_armed.ensures.action ∙ c.in_default.is) c.take_armed.ensures.taken
    (subst (λ (a : AgendaState). without_armed_of a.controls c.args.request (many - c.loop.counter) ≡ without_armed_of c.args.self.now.controls c.args.request many) (sym is) c.loop.invariant.1))
