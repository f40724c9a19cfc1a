use Rattle.std.proofs.Common.{sym}
use Rattle.mount_log.proofs.Heading.{head_is}
use Rattle.line_audit.proofs.Firsts.{no_head, none_there}
use Rattle.line_audit.proofs.linked.effect_at.Goals as goal

pub effect_of-requires : goal.effect_of-requires
effect_of-requires c =
    head_is c.args.heads.now c.args.log.now.events c.args.k c.in-Some-event_at.event.now c.in-Some.head c.requires (sym c.in-Some-event_at.ensures) (sym c.in-Some.ensures)

pub returns-in_default-clause-none : goal.returns-in_default-clause-none
returns-in_default-clause-none c = no_head c.args.heads.now c.args.log.now.events c.args.k c.requires (sym c.in_default.ensures)

pub returns-in-None-clause-none : goal.returns-in-None-clause-none
returns-in-None-clause-none c = none_there c.args.log.now.events c.args.k (sym c.in-None.ensures)
