use Rattle.std.proofs.Common.{◌≡◌, sym}
use Rattle.mount_log.specs.declared.logs.HubEvent.TheVariants as logged
use Rattle.line_audit.proofs.Ending.{head_by_is, by_output}
use Rattle.line_audit.proofs.Finding.{head_for}
use Rattle.line_audit.proofs.tied_ends.is_ended_by_output.Goals as goal

pub is_end_event-requires : goal.is_end_event-requires
is_end_event-requires c =
    head_by_is c.args.log.now c.args.heads.now c.args.line.now.event c.in-Some-event_at.event.now c.in-Some.head c.requires (sym c.in-Some-event_at.ensures) (sym c.in-Some.ensures)

pub returns-in-Some-event_at-clause-sound : goal.returns-in-Some-event_at-clause-sound
returns-in-Some-event_at-clause-sound c = λ yes. by_output c.args.log.now c.args.brick c.args.line.now c.in-Some-event_at.event.now (sym c.in-Some-event_at.ensures) (c.is_end_event.ensures.sound yes)

pub returns-in_default-clause-complete : goal.returns-in_default-clause-complete
returns-in_default-clause-complete c = λ low h. absurd (head_for c.args.log.now c.args.heads.now c.args.line.now.event (logged.Arrive c.args.brick h.bytes) c.requires (sym c.in_default.ensures) h.event)
