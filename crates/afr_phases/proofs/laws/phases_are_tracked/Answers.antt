use Rattle.afr_phases.proofs.Tracked.{sent, heard_one, outsiders}
use Rattle.afr_phases.proofs.laws.phases_are_tracked.Goals as goal

pub returns-clause-sent : goal.returns-clause-sent
returns-clause-sent c = sent

pub returns-clause-heard : goal.returns-clause-heard
returns-clause-heard c = heard_one

pub returns-clause-outside : goal.returns-clause-outside
returns-clause-outside c = outsiders
