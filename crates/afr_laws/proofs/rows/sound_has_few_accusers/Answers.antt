use Rattle.afr_laws.proofs.Sound.{sound_has_few_accusers}
use Rattle.afr_laws.proofs.rows.sound_has_few_accusers.Goals as goal

pub returns : goal.returns
returns c = sound_has_few_accusers
