use Rattle.std.proofs.Common.{◌≡◌, sym, ap, ◌∙◌}
use Rattle.error_audit.proofs.Closings.{never_open}
use Rattle.error_audit.proofs.losses.is_never_open.Goals as goal

pub returns-clause-sound : goal.returns-clause-sound
returns-clause-sound c = λ yes. never_open c.args.log.now c.args.graph c.args.brick c.args.moment c.args.openings.now c.requires (c.has_none.ensures.0 yes)
