use Rattle.std.proofs.Common.{◌≡◌, subst}
use Rattle.std.specs.Prelude.{None}
use Rattle.mount_log.specs.Controls.{IsCarriedAt, IsControlBefore}
use Rattle.mount_log.specs.declared.logs.HubEvent.{HubEvent}
use Rattle.run_audit.specs.Controlled.{IsOfControl}
use Rattle.run_audit.specs.Noted.{course_of}
use Rattle.run_audit.proofs.NotedFor.{noted_at, noted_arm}
use Rattle.run_audit.proofs.acts.is_of_control.Goals as goal

pub returns-in-Act-clause-complete : goal.returns-in-Act-clause-complete
returns-in-Act-clause-complete c = λ noted some own is.
    let by : IsCarriedAt c.args.script.now (course_of c.args.notes.now c.args.last) c.args.number c.in-Act.action =
    subst (λ (e : HubEvent). IsOfControl c.args.script.now c.args.notes.now c.args.last c.args.number e) c.in-Act.is is in
    let here = noted_at c.args.script.now c.args.notes.now noted c.args.number None c.args.at by.phase by.at by.control some own by.there by.number_is by.by_event in
    c.is_carried_at.ensures.complete by.control here.there here.number_is here.sent_is by.action_is

pub returns-in-Arm-clause-complete : goal.returns-in-Arm-clause-complete
returns-in-Arm-clause-complete c = λ noted some own is.
    let by : IsControlBefore c.args.script.now (course_of c.args.notes.now c.args.last) c.args.number c.in-Arm.brick c.in-Arm.proc c.in-Arm.count c.in-Arm.action =
    subst (λ (e : HubEvent). IsOfControl c.args.script.now c.args.notes.now c.args.last c.args.number e) c.in-Arm.is is in
    let here = noted_arm c.args.script.now c.args.notes.now noted c.args.number c.args.at by.phase by.at c.in-Arm.brick c.in-Arm.count c.in-Arm.proc by.control some own by.there by.number_is by.when_is in
    c.is_control_before.ensures.complete by.control here.0 here.1 by.when_is by.action_is
