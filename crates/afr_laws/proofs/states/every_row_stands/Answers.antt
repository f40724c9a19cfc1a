use Rattle.afr_laws.proofs.Standing.Steps.{keeps_rows}
use Rattle.afr_laws.proofs.states.every_row_stands.Goals as goal

pub returns : goal.returns
returns c = keeps_rows
