use Rattle.afr_phases.proofs.Reached.{reached_hold}
use Rattle.afr_phases.proofs.laws.reached_hold_locks.Goals as goal

pub returns : goal.returns
returns c = reached_hold
