use Rattle.afr_contents.proofs.Split.{seen_all_has_sound}
use Rattle.afr_contents.proofs.copies.seen_all_has_sound.Goals as goal

pub returns : goal.returns
returns c = seen_all_has_sound
