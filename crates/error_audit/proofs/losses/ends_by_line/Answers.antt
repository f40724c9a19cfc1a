use Rattle.std.proofs.Common.{◌≡◌}
use Rattle.error_audit.proofs.Evident.{ends_right}
use Rattle.error_audit.proofs.losses.ends_by_line.Goals as goal

pub returns-clause-sound : goal.returns-clause-sound
returns-clause-sound c = λ yes. ends_right _ _ (c.in_ok-yes.ensures.sound yes)
