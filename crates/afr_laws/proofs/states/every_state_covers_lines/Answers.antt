use Rattle.afr_laws.proofs.Covered.Granted.{grants_stand}
use Rattle.afr_laws.proofs.Covered.Lines.{lines_are_covered}
use Rattle.afr_laws.proofs.states.every_state_covers_lines.Goals as goal

pub returns : goal.returns
returns c = λ size m reached. record { grants_stand = grants_stand size m reached; lines_covered = lines_are_covered size m reached }
