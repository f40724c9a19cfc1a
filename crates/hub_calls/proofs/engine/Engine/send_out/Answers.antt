use Rattle.std.proofs.Common.{◌≡◌, ap, sym, subst, ◌∙◌}
use Rattle.mount_log.specs.declared.logs.Log.{Log}
use Rattle.hub_tables.specs.Agendas.{outgoing}
use Rattle.hub_calls.specs.EventNumbers.{AreOfEvent}
use Rattle.hub_calls.specs.declared.turn.Turn.{Turn}
use Rattle.hub_calls.proofs.EventNumbers.{sent_of_event}
use Rattle.hub_calls.proofs.engine.Engine.send_out.Goals as goal

pub returns-clause-numbered : goal.returns-clause-numbered
returns-clause-numbered c = λ n are.
    let old : Log = c.args.self.now.parts.turn.lines in
    let sent = c.in_ok-sent.ensures.lines ∙ ap (outgoing c.args.self.now.agenda.controls) c.take_sends-sends.ensures.sends in
    let lines : c.put_sent.new.self.lines ≡ record old { sent = c.in_ok-sent.sent } = ap (λ (t : Turn). t.lines) c.put_sent.ensures ∙ ap (λ (t : Turn). record t.lines { sent = c.in_ok-sent.sent }) c.take_sends-sends.ensures.none in
    subst (λ (l : Log). AreOfEvent n l) (sym lines) (sent_of_event c.args.self.now.agenda.controls old c.in_ok-sent.sent sent n are)
