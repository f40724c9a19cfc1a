use Rattle.std.proofs.Common.{◌≡◌, false, true, sym, ◌∙◌}
use Rattle.std.specs.Prelude.{length}
use Rattle.run_audit.proofs.NotedFor.{sent_by}
use Rattle.run_audit.proofs.sent_for.has_cause.Goals as goal
use Rattle.run_audit.proofs.sent_for.has_cause.Goals.{else-is_act-via-then-is_act+else-is_first, else-is_act-via-else-is_act}

pub returns-clause-sound : goal.returns-clause-sound
returns-clause-sound c = λ yes. c.is_control_line.ensures.sound yes c.args.line.now c.args.action

pub returns-clause-complete : goal.returns-clause-complete
returns-clause-complete c = λ noted few is.
    sent_by c.args.script.now c.args.log.now c.args.notes.now (length c.args.log.now.events) c.args.k c.args.line.now c.args.action c.noted_for.result c.is_control_line.result noted c.noted_for.ensures
    (λ event first.
    elim c.else-is_act.branch as (λ b. c.is_control_line.result ≡ true) [
      | else-is_act-via-then-is_act+else-is_first w ↦ absurd (let no : ◌≡◌ false true = sym w.if-is_first.false ∙ w.is_first.ensures.complete few first in cc)
      | else-is_act-via-else-is_act w ↦ absurd (let no : ◌≡◌ false true = sym w.if-is_act.false ∙ c.is_act.ensures.1 event in cc)
    ])
    c.is_control_line.ensures.complete is
