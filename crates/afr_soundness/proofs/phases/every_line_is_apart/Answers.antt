use Rattle.afr_soundness.proofs.Lines.{keeps_lines_apart}
use Rattle.afr_soundness.proofs.phases.every_line_is_apart.Goals as goal

pub returns : goal.returns
returns c = keeps_lines_apart
