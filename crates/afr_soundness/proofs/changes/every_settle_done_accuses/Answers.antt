use Rattle.afr_soundness.proofs.SettleDone.{settle_done_accuses}
use Rattle.afr_soundness.proofs.changes.every_settle_done_accuses.Goals as goal

pub returns : goal.returns
returns c = settle_done_accuses
