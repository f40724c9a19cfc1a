use Rattle.afr_soundness.proofs.Agreeing.{keeps_agreeing}
use Rattle.afr_soundness.proofs.changes.every_group_agrees.Goals as goal

pub returns : goal.returns
returns c = keeps_agreeing
