use Rattle.afr_phases.proofs.Stays.{lost_are_out}
use Rattle.afr_phases.proofs.laws.lost_locks_leave.Goals as goal

pub returns : goal.returns
returns c = lost_are_out
