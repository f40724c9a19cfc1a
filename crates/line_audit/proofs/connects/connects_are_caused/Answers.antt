use Rattle.line_audit.proofs.Carrying.{inputs_caused, linked_back}
use Rattle.line_audit.proofs.connects.connects_are_caused.Goals as goal

pub returns-clause-sound : goal.returns-clause-sound
returns-clause-sound c = λ yes.
    inputs_caused c.messages_read_back.ensures c.args.script.now c.args.plans.now c.args.log.now (c.in_ok-linked.ensures.sound yes) (c.in_ok-lines_are_caused.ensures.sound c.if-not-branch.false) (c.in_ok-downs_are_carried.ensures.sound c.if-not-branch-2.false)

pub returns-clause-complete : goal.returns-clause-complete
returns-clause-complete c = λ can first acted caused.
    c.in_ok-linked.ensures.complete can (linked_back c.messages_read_back.ensures c.args.script.now c.args.plans.now c.args.log.now caused can.bricks can.sent)
