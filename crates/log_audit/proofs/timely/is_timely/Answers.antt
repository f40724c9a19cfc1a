use Rattle.std.proofs.lemmas.Bool.{leb-true, le-leb}
use Rattle.log_audit.proofs.Heading.{timely_by_head, head_is_timely}
use Rattle.log_audit.proofs.timely.is_timely.Goals as goal

pub returns-else-from-brick-clause-sound : goal.returns-else-from-brick-clause-sound
returns-else-from-brick-clause-sound c = λ yes. timely_by_head c.args.brick c.args.many c.args.event.now c.args.head c.requires (leb-true c.args.head.taken c.args.many yes)

pub returns-else-from-brick-clause-complete : goal.returns-else-from-brick-clause-complete
returns-else-from-brick-clause-complete c = λ sent number below timely.
    le-leb c.args.head.taken c.args.many (head_is_timely c.args.brick c.args.many c.in-Arrive.from c.in-Arrive.bytes c.args.event.now c.args.head c.in-Arrive.is c.if-from-brick.false c.requires sent number below timely)
