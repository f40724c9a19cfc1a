use Rattle.std.proofs.Common.{ℕ, ◌+◌, length, ap, sym, subst}
use Rattle.hub_calls.specs.EventNumbers.{AreOfEvent}
use Rattle.hub_calls.specs.declared.parts.Parts.{Parts}
use Rattle.hub_calls.specs.declared.turn.Turn.{Turn}
use Rattle.hub_calls.proofs.EventNumbers.{in_any_case, numbered_are, lines_out}
use Rattle.hub_calls.proofs.engine.Engine.end.Goals as goal

pub returns-clause-lines : goal.returns-clause-lines
returns-clause-lines c =
    in_any_case c.end.result (lines_out c.args.self.now.agenda.controls c.in_ok-number.number (length c.args.log.now.events + 1) c.args.self.now.parts.turn.lines c.number_lines.new.self.lines c.send_out.new.self.parts.turn.lines
    c.in_ok-number.ensures (ap (λ (t : Turn). t.lines) c.in_ok-number_lines.ensures) c.in_ok-send_out.ensures.sent (ap (λ (p : Parts). p.turn.lines) c.in_ok-send_out.ensures.lines))

pub returns-clause-numbered : goal.returns-clause-numbered
returns-clause-numbered c =
    let are : AreOfEvent c.in_ok-number.number c.number_lines.new.self.lines = subst (λ (t : Turn). AreOfEvent c.in_ok-number.number t.lines) (sym c.in_ok-number_lines.ensures) (numbered_are c.in_ok-number.number c.args.self.now.parts.turn.lines) in
    let number = subst (λ (n : ℕ). AreOfEvent n c.number_lines.new.self.lines) c.in_ok-number.ensures are in
    in_any_case c.end.result (c.in_ok-send_out.ensures.numbered (length c.args.log.now.events + 1) number)
