use Rattle.afr_laws.proofs.Seen.Steps.{keeps_seen}
use Rattle.afr_laws.proofs.states.every_seen_row_stands.Goals as goal

pub returns : goal.returns
returns c = keeps_seen
