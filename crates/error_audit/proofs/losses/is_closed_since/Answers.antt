use Rattle.std.proofs.Common.{◌≡◌, sym, ap, ◌∙◌}
use Rattle.error_audit.proofs.Closings.{not_open}
use Rattle.error_audit.proofs.losses.is_closed_since.Goals as goal

pub returns-clause-sound : goal.returns-clause-sound
returns-clause-sound c = λ yes.
    let last = c.if-not-is_last.false in
    not_open c.args.log.now c.args.graph c.args.brick c.args.end.event c.args.moment c.args.openings.now c.requires (c.is_last.ensures.from_one last) (c.is_last.ensures.later last) (c.in_ok-yes.ensures.sound yes) (c.is_last.ensures.same last)
