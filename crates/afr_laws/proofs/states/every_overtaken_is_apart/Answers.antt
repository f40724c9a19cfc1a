use Rattle.afr_laws.proofs.Overtaken.Steps.{keeps_overtaken}
use Rattle.afr_laws.proofs.states.every_overtaken_is_apart.Goals as goal

pub returns : goal.returns
returns c = keeps_overtaken
