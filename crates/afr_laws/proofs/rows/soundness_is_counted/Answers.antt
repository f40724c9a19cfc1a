use Rattle.afr_laws.proofs.Sound.{soundness_is_counted}
use Rattle.afr_laws.proofs.rows.soundness_is_counted.Goals as goal

pub returns : goal.returns
returns c = soundness_is_counted
