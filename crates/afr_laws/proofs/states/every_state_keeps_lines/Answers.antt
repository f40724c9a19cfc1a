use Rattle.afr_laws.proofs.Guarded.{keeps_lines}
use Rattle.afr_laws.proofs.states.every_state_keeps_lines.Goals as goal

pub returns : goal.returns
returns c = keeps_lines
