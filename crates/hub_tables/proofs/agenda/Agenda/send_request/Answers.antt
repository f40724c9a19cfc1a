use Rattle.std.proofs.Common.{◌≡◌, ◌++◌, ◌∷◌, [], length, ap, ◌∙◌, arith}
use Rattle.hub_tables.specs.PhaseControls.{ControlsState, with_count, with_sent}
use Rattle.hub_tables.specs.Agendas.{AgendaState, controls_after, without_armed_of, owed_by}
use Rattle.hub_tables.proofs.Outgoing.{request_owed, request_sent}
use Rattle.hub_tables.proofs.agenda.Agenda.send_request.Goals as goal

pub returns-in_ok-sent-in-Ok-clause-owed : goal.returns-in_ok-sent-in-Ok-clause-owed
returns-in_ok-sent-in-Ok-clause-owed c =
    omega (arith, ap (λ (a : AgendaState). a.owed) c.self.view_is, c.in-Ok.ensures.owed, ap owed_by c.in_ok-push-in-Ok.ensures.ok, request_owed c.go_before.new.lines c.args.line c.args.proc c.requires)

pub returns-in_ok-sent-in-Ok-clause-controls : goal.returns-in_ok-sent-in-Ok-clause-controls
returns-in_ok-sent-in-Ok-clause-controls c = λ k so_far.
    let old : ControlsState = c.args.self.now.controls in
    let taken : c.self.inside.controls ≡ without_armed_of (with_count old c.args.line.brick c.args.proc) c.in-Ok.request (length old.armed)
    = ap (λ (a : AgendaState). a.controls) (c.self.view_is ∙ c.in-Ok.ensures.same) in
    ap (controls_after k) c.in_ok-push-in-Ok.ensures.ok
    ∙ request_sent c.go_before.new.lines c.args.line c.args.proc c.in-Ok.request old c.sent.new.self k c.requires c.in-Ok.ensures.request
    (c.in_ok-sent-in-Ok.ensures ∙ ap (λ (s : ControlsState). with_sent s c.in-Ok.request) taken) (c.in-Ok.ensures.controls k ∙ so_far)
