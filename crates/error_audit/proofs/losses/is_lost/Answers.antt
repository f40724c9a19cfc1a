use Rattle.std.proofs.Common.{◌≡◌, sym, ap, ◌∙◌}
use Rattle.error_audit.proofs.Evident.{lost}
use Rattle.error_audit.proofs.losses.is_lost.Goals as goal

pub returns-clause-sound : goal.returns-clause-sound
returns-clause-sound c = λ yes.
    let within = c.if-not-is_within.false in
    lost c.args.log.now c.args.plan.now c.args.reply.now.call c.args.reply.now.event c.args.span.graph c.args.span.since c.args.loss.moment c.args.loss.found c.args.pair.now c.args.openings.now c.requires.numbers c.requires.graph c.requires.since
    (c.has_brick.ensures.0 c.if-not-has_brick.false) (c.is_within.ensures.since within) (c.is_within.ensures.later within) (c.is_within.ensures.until within) (c.has_number.ensures.0 c.if-not-has_number.false) (c.in_ok-yes.ensures.sound yes)
