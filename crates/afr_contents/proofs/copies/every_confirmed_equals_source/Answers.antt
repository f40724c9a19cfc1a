use Rattle.afr_contents.proofs.Verdicts.{confirmed_equals_source}
use Rattle.afr_contents.proofs.copies.every_confirmed_equals_source.Goals as goal

pub returns : goal.returns
returns c = confirmed_equals_source
