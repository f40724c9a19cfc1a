use Rattle.std.proofs.Common.{ap, sym, subst, ◌∙◌}
use Rattle.mount_log.specs.Logs.{with_lines}
use Rattle.mount_log.specs.declared.logs.Log.{Log}
use Rattle.hub_calls.specs.EventNumbers.{AreOfEvent}
use Rattle.hub_calls.specs.declared.turn.Turn.{Turn}
use Rattle.hub_calls.proofs.EventNumbers.{numbered_are, both_of_event}
use Rattle.hub_calls.proofs.engine.Engine.begin.Goals as goal

pub returns-clause-numbered : goal.returns-clause-numbered
returns-clause-numbered c =
    let numbered = subst (λ (t : Turn). AreOfEvent 0 t.lines) (sym c.in_ok-number_lines.ensures) (numbered_are 0 c.make_graph.new.self.turn.lines) in
    let out = c.in_ok-send_out.ensures.numbered 0 numbered in
    let added = c.in_ok-add_lines.ensures.ok ∙ ap (λ (l : Log). with_lines c.args.log.now l) c.take_lines-lines.ensures in
    both_of_event 0 c.args.log.now c.add_lines.new.log c.send_out.new.self.parts.turn.lines out added
