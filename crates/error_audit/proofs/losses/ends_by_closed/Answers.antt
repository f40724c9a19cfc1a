use Rattle.std.proofs.Common.{◌≡◌}
use Rattle.error_audit.proofs.Evident.{ends_left}
use Rattle.error_audit.proofs.losses.ends_by_closed.Goals as goal

pub returns-clause-sound : goal.returns-clause-sound
returns-clause-sound c = λ yes. ends_left _ _ (c.in_ok-yes.ensures.sound yes)
