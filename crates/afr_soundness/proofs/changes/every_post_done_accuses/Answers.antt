use Rattle.afr_soundness.proofs.Posted.{post_done_accuses}
use Rattle.afr_soundness.proofs.changes.every_post_done_accuses.Goals as goal

pub returns : goal.returns
returns c = post_done_accuses
